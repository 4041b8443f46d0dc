use Rattle.std.proofs.Common.{arith}
use Rattle.rs01_gf256.proofs.Logarithms.{times-inverse}
use Rattle.rs01_gf256.proofs.laws_of_field.product_with_inverse_is_one.Goals as goal

pub returns : goal.returns
returns c = λ some. times-inverse c.args.x.0 (omega arith) (omega arith)
