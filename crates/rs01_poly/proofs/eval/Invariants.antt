use Rattle.std.proofs.Common.{◌≡◌, drop}
use Rattle.rs01_poly.specs.Polynomial.{horner, value_at}
use Rattle.rs01_poly.proofs.eval.Given as goal

abbrev pub invariant-loop-coefficient : goal.invariant-loop-coefficient
invariant-loop-coefficient l = horner l.value.0 (drop l.coefficient-index l.coeffs) l.x.0 ≡ value_at l.coeffs l.x.0
