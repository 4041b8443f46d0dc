use Rattle.std.proofs.Common.{arith}
use Rattle.std.proofs.lemmas.Map.Text.{text_keys}
use Rattle.rs01_fakes.proofs.stored.make.Goals as goal

pub returns-in-Some-clause-made : goal.returns-in-Some-clause-made
returns-in-Some-clause-made c =
    let written = c.get_mut.follows.holds c.clear.new.self in
    record {
      there = grind (arith, text_keys, written);
      elsewhere = λ other apart. grind (arith, text_keys, written);
    }
