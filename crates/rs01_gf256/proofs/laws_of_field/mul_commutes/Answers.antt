use Rattle.std.proofs.Common.{arith}
use Rattle.rs01_gf256.proofs.Laws.{times-comm}
use Rattle.rs01_gf256.proofs.laws_of_field.mul_commutes.Goals as goal

pub returns : goal.returns
returns c = times-comm c.args.x.0 c.args.y.0 (omega arith) (omega arith)
