-- The value of a unit word, whose polynomial is a power of x.
use Rattle.std.proofs.Common.{◌≡◌, ℕ, zero, suc, ◌+◌, ◌-◌, ◌*◌, ◌^◌, ◌<◌, ◌++◌, ◌∷◌, bit_xor, sym, ap, ◌∙◌, arith}
use Rattle.std.specs.Prelude.{replicate}
use Rattle.std.proofs.Math.Nat.{mul_assoc}
use Rattle.std.specs.Int.Bits.{xor_zero_r}
use Rattle.rs01_gf256.specs.Field.{times, power}
use Rattle.rs01_gf256.proofs.Laws.{times-assoc, zero-times, one-times}
use Rattle.rs01_gf256.proofs.Logarithms.{times_below, power_below, power-power}
use Rattle.rs01_poly.specs.Code.{root}
use Rattle.rs01_poly.specs.Polynomial.{horner, value_at}
use Rattle.rs01_poly.proofs.Division.{root_below}
use Rattle.rs01_poly.proofs.Values.{leading_zero, times-one}
use Rattle.rs01_columns.specs.Certificate.{root_values, unit_word}

-- zeros behind a polynomial multiply its value by a power
after_zeros : (v m z : ℕ) → v < 2 ^ 8 → z < 2 ^ 8 → horner v (replicate m 0) z ≡ times v (power z m)
unfolding horner power
after_zeros v zero z hv hz = sym (times-one v hv)
after_zeros v (suc m) z hv hz =
    ap (λ w. horner w (replicate m 0) z) (xor_zero_r (times v z))
    ∙ after_zeros (times v z) m z (times_below v z hv hz) hz
    ∙ times-assoc v z (power z m) hv hz (power_below z m hz)

-- zeros before it don't change its value
behind_zeros : (l m z : ℕ) → z < 2 ^ 8 → value_at (replicate l 0 ++ 1 ∷ replicate m 0) z ≡ power z m
unfolding value_at horner
behind_zeros zero m z hz =
    ap (λ w. horner w (replicate m 0) z) (ap (λ w. bit_xor w 1) (zero-times z))
    ∙ after_zeros 1 m z (omega arith) hz
    ∙ one-times (power z m) (power_below z m hz)
behind_zeros (suc l) m z hz =
    leading_zero (replicate l 0 ++ 1 ∷ replicate m 0) z ∙ behind_zeros l m z hz

-- the value of a unit word at a root
pub unit_value : (n l j : ℕ) → power 2 (11 * ((112 + j) * (n - (l + 1)))) ≡ root_values (unit_word n l) j
unfolding root
unit_value n l j =
    let same : 11 * ((112 + j) * (n - (l + 1))) ≡ 11 * (112 + j) * (n - (l + 1)) = sym (mul_assoc 11 (112 + j) (n - (l + 1))) in
    ap (power 2) same
    ∙ sym (power-power 2 (11 * (112 + j)) (n - (l + 1)) (omega arith))
    ∙ sym (behind_zeros l (n - (l + 1)) (root j) (root_below j))
