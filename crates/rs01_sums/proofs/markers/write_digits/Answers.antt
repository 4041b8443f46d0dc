use Rattle.std.proofs.Common.{◌≡◌, ℕ, suc, ◌+◌, ◌-◌, ◌/◌, ◌%◌, ◌<◌, ◌≤◌, List, [], ◌∷◌, ◌++◌, length, set, drop, arith, sym, ap, ◌∙◌, append_assoc}
use Rattle.std.proofs.lemmas.List.{drop-set, length-set}
use Rattle.rs01_sums.specs.Marker.{digits}
use Rattle.rs01_sums.proofs.markers.write_digits.Goals as goal

-- one digit more stands at the end
next_digit : (into all : List ℕ) (rest p : ℕ) → 0 < p → p ≤ length into → all ≡ digits p rest ++ drop p into
    → all ≡ digits (p - 1) (rest / 10) ++ drop (p - 1) (set into (p - 1) (48 + rest % 10))
unfolding digits
next_digit into all rest p some h held =
    let e : p ≡ suc (p - 1) = omega arith in
    let f : p ≡ p - 1 + 1 = omega arith in
    held ∙ (λ i. digits (e i) rest ++ drop (f i) into)
    ∙ append_assoc (digits (p - 1) (rest / 10)) ((48 + rest % 10) ∷ []) (drop (p - 1 + 1) into)
    ∙ ap (λ xs. digits (p - 1) (rest / 10) ++ xs) (sym (drop-set into (p - 1) (48 + rest % 10) (omega arith)))

no_digit : (into all : List ℕ) (rest p : ℕ) → p ≤ 0 → all ≡ digits p rest ++ drop p into → into ≡ all
unfolding digits
no_digit into all rest p none held =
    let e : p ≡ 0 = omega arith in
    sym (held ∙ ap (λ n. digits n rest ++ drop n into) e)

pub loop-place-preserved : goal.loop-place-preserved
loop-place-preserved c =
    ap (λ n. digits n c.args.number) (length-set c.loop-place.into (c.loop-place.place - 1) (48 + c.loop-place.rest % 10))
    ∙ next_digit c.loop-place.into _ c.loop-place.rest c.loop-place.place c.loop-place-test.true (omega arith) c.loop-place.invariant

pub returns : goal.returns
returns c =
    no_digit c.loop-place.into _ c.loop-place.rest c.loop-place.place c.loop-place-test.false c.loop-place.invariant
    ∙ ap (λ n. digits n c.args.number) c.loop-place.auto.into
