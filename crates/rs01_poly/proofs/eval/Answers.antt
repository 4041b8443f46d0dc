use Rattle.std.proofs.Common.{◌≡◌, ℕ, ◌+◌, ◌<◌, ◌≤◌, List, ◌∷◌, length, get_or, drop, refl, sym, ap, ◌∙◌, add-one, arith, bit_xor}
use Rattle.std.proofs.Math.Seq.{drop-cons}
use Rattle.std.proofs.Math.ListN.{drop_of_length-le}
use Rattle.rs01_gf256.specs.Field.{times}
use Rattle.rs01_poly.specs.Polynomial.{horner, value_at}
use Rattle.rs01_poly.proofs.eval.Goals as goal

start : (p : List ℕ) (z : ℕ) → horner 0 (drop 0 p) z ≡ value_at p z
unfolding value_at
start p z = refl

step : (p : List ℕ) (i v w z e : ℕ) → i < length p → w ≡ bit_xor (times v z) (get_or p i 0)
    → horner v (drop i p) z ≡ e → horner w (drop (i + 1) p) z ≡ e
unfolding horner
step p i v w z e h one held =
    let cons : drop i p ≡ get_or p i 0 ∷ drop (i + 1) p = drop-cons p i 0 h ∙ ap (λ k. get_or p i 0 ∷ drop k p) (sym (add-one i)) in
    ap (λ u. horner u (drop (i + 1) p) z) one ∙ sym (ap (λ q. horner v q z) cons) ∙ held

finish : (p : List ℕ) (i v z e : ℕ) → length p ≤ i → horner v (drop i p) z ≡ e → v ≡ e
unfolding horner
finish p i v z e h held = sym (ap (λ q. horner v q z) (drop_of_length-le p h)) ∙ held

pub loop-coefficient-init : goal.loop-coefficient-init
loop-coefficient-init c = start c.args.coeffs.now c.args.x.0

pub loop-coefficient-preserved : goal.loop-coefficient-preserved
loop-coefficient-preserved c =
    step _ _ _ _ _ _ c.loop-coefficient-test.true
    (c.add-value.ensures ∙ ap (λ v. bit_xor v (get_or c.args.coeffs.now c.loop-coefficient.coefficient-index 0)) c.mul.ensures)
    c.loop-coefficient.invariant

pub returns : goal.returns
returns c = finish c.args.coeffs.now c.loop-coefficient.coefficient-index _ _ _ (omega arith) c.loop-coefficient.invariant
