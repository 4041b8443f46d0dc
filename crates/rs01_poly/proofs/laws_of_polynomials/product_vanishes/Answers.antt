use Rattle.std.proofs.Common.{◌≡◌, ℕ, ◌^◌, ◌<◌, ◌⊎◌, ⊎_elim, inl, inr, List, sym, ap, ◌∙◌, arith, bit_xor}
use Rattle.std.proofs.lemmas.Nat.{xor_lt}
use Rattle.std.specs.Int.Bits.{xor_self}
use Rattle.rs01_gf256.specs.Field.{times}
use Rattle.rs01_gf256.proofs.Laws.{zero-times, times-zero}
use Rattle.rs01_gf256.proofs.Logarithms.{zero_product}
use Rattle.rs01_poly.specs.Polynomial.{value_at, times_linear}
use Rattle.rs01_poly.proofs.Values.{AllBytes, value_at-times_linear, value_below}
use Rattle.rs01_poly.proofs.Syndromes.{xor_same}
use Rattle.rs01_poly.proofs.laws_of_polynomials.product_vanishes.Goals as goal

vanishes : (p : List ℕ) (c z : ℕ) → AllBytes p → c < 2 ^ 8 → z < 2 ^ 8 → (z ≡ c) ⊎ (value_at p z ≡ 0) → value_at (times_linear p c) z ≡ 0
vanishes p c z hp hc hz h =
    value_at-times_linear p c z hp hc hz
    ∙ ⊎_elim
    (λ root. ap (λ v. times (bit_xor v c) (value_at p z)) root ∙ ap (λ v. times v (value_at p z)) (xor_self c) ∙ zero-times (value_at p z))
    (λ factor. ap (times (bit_xor z c)) factor ∙ times-zero (bit_xor z c))
    h

only : (p : List ℕ) (c z : ℕ) → AllBytes p → c < 2 ^ 8 → z < 2 ^ 8 → value_at (times_linear p c) z ≡ 0 → (z ≡ c) ⊎ (value_at p z ≡ 0)
only p c z hp hc hz e =
    ⊎_elim (λ f. inl (sym (xor_same z c f))) (λ f. inr f)
    (zero_product (bit_xor z c) (value_at p z) (xor_lt 8 z c hz hc) (value_below p z hz hp) (sym (value_at-times_linear p c z hp hc hz) ∙ e))

pub returns : goal.returns
returns c =
    let p = c.args.polynomial.now in
    let bytes : AllBytes p = λ k. (c.type_inv.polynomial k).fits in (
      only p c.args.c.0 c.args.z.0 bytes (omega arith) (omega arith),
      vanishes p c.args.c.0 c.args.z.0 bytes (omega arith) (omega arith),
    )
