use Rattle.std.proofs.Common.{arith}
use Rattle.rs01_poly.proofs.Linear.{remainder-scale}
use Rattle.rs01_poly.proofs.laws_of_polynomials.remainder_of_multiple.Goals as goal

pub returns : goal.returns
returns c =
    remainder-scale c.args.n c.args.c.0 c.args.divisor.now c.args.polynomial.now (omega arith)
    (λ k. (c.type_inv.divisor k).fits) (λ k. (c.type_inv.polynomial k).fits)
