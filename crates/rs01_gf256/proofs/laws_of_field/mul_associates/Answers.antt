use Rattle.std.proofs.Common.{arith}
use Rattle.rs01_gf256.proofs.Laws.{times-assoc}
use Rattle.rs01_gf256.proofs.laws_of_field.mul_associates.Goals as goal

pub returns : goal.returns
returns c = times-assoc c.args.x.0 c.args.y.0 c.args.z.0 (omega arith) (omega arith) (omega arith)
