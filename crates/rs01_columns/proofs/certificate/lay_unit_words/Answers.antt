use Rattle.std.proofs.Common.{arith}
use Rattle.rs01_columns.proofs.UnitPlaces.{unit_lane}
use Rattle.rs01_columns.proofs.certificate.lay_unit_words.Goals as goal

pub returns : goal.returns
returns c = λ l h j. unit_lane c.loop-i.bank c.args.n l j (c.loop-i.invariant.ones l (omega arith)) (λ m ne. c.loop-i.invariant.zeros l m (omega arith) ne)
