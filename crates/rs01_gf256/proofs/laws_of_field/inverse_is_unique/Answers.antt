use Rattle.std.proofs.Common.{arith}
use Rattle.rs01_gf256.proofs.Logarithms.{inverse_is_unique}
use Rattle.rs01_gf256.proofs.laws_of_field.inverse_is_unique.Goals as goal

pub returns : goal.returns
returns c = inverse_is_unique c.args.x.0 c.args.y.0 (omega arith) (omega arith)
