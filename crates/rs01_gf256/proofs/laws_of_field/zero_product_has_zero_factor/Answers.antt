use Rattle.std.proofs.Common.{arith}
use Rattle.rs01_gf256.proofs.Logarithms.{zero_product}
use Rattle.rs01_gf256.proofs.laws_of_field.zero_product_has_zero_factor.Goals as goal

pub returns : goal.returns
returns c = zero_product c.args.x.0 c.args.y.0 (omega arith) (omega arith)
