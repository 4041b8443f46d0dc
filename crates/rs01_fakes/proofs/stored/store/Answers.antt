use Rattle.std.proofs.Common.{arith}
use Rattle.std.proofs.lemmas.Map.Text.{text_keys}
use Rattle.rs01_fakes.proofs.stored.store.Goals as goal

pub returns : goal.returns
returns c = record { there = grind (arith, text_keys); elsewhere = λ other apart. grind (arith, text_keys) }
