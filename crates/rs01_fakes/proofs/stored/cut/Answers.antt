use Rattle.std.proofs.Common.{arith}
use Rattle.std.proofs.lemmas.Map.Text.{text_keys}
use Rattle.rs01_fakes.proofs.stored.cut.Goals as goal

pub returns-in-Some : goal.returns-in-Some
returns-in-Some c =
    let written = c.get_mut.follows.holds c.truncate.new.self in
    record {
      kept = grind (arith, text_keys, written);
      elsewhere = λ other apart. grind (arith, text_keys, written);
    }
