-- The generator polynomial: its length and its leading coefficient.
use Rattle.std.proofs.Common.{◌≡◌, ℕ, zero, suc, ◌+◌, List, ◌∷◌, length, refl, sym, ap, ◌∙◌, add-one, arith}
use Rattle.rs01_poly.specs.Polynomial.{add_front, times_linear}
use Rattle.rs01_poly.specs.Code.{root, generator, lower}
use Rattle.rs01_poly.proofs.Coefficients.{length-times_linear}

pub length-generator : (r : ℕ) → length (generator r) ≡ r + 1
unfolding generator
length-generator zero = refl
length-generator (suc r) = length-times_linear (generator r) (root r) ∙ ap (λ n. n + 1) (length-generator r ∙ add-one r)

-- the product of a monic polynomial and x + c is monic
times_linear-monic : (p : List ℕ) (c : ℕ) → p ≡ 1 ∷ lower p → times_linear p c ≡ 1 ∷ lower (times_linear p c)
unfolding times_linear add_front
times_linear-monic p c e = ap (λ q. times_linear q c) e ∙ ap (λ q. 1 ∷ lower (times_linear q c)) (sym e)

-- the leading coefficient is 1
pub generator-monic : (r : ℕ) → generator r ≡ 1 ∷ lower (generator r)
unfolding generator
generator-monic zero = refl
generator-monic (suc r) = times_linear-monic (generator r) (root r) (generator-monic r)

pub length-lower : (r : ℕ) → length (lower (generator r)) ≡ r
length-lower r =
    let whole : length (1 ∷ lower (generator r)) ≡ r + 1 = sym (ap length (generator-monic r)) ∙ length-generator r in
    omega (arith, whole)
