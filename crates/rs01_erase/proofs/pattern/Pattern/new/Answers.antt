use Rattle.std.proofs.Common.{arith}
use Rattle.rs01_erase.proofs.PlaceLemmas.{at_most_255}
use Rattle.rs01_erase.proofs.pattern.Pattern.new.Goals as goal

pub overflow_cast-result : goal.overflow_cast-result
overflow_cast-result c = omega (arith, at_most_255 c.args.erased.now c.requires.places)
