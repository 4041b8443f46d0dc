use Rattle.std.proofs.Common.{arith}
use Rattle.rs01_poly.proofs.Values.{value_at-times_linear}
use Rattle.rs01_poly.proofs.laws_of_polynomials.value_of_product.Goals as goal

pub returns : goal.returns
returns c = value_at-times_linear c.args.polynomial.now c.args.c.0 c.args.z.0 (λ k. (c.type_inv.polynomial k).fits) (omega arith) (omega arith)
