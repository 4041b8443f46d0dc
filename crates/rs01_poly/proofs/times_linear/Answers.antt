use Rattle.std.proofs.Common.{◌≡◌, ◌≢◌, ℕ, ◌+◌, ◌-◌, ◌<◌, ◌≤◌, List, length, get_or, take, drop, set, length-drop, sym, ap, ◌∙◌, arith, bit_xor}
use Rattle.std.proofs.lemmas.List.{get_or-set_same, get_or-set_other, get_or-take, get_or-drop, length-take-le, length-set}
use Rattle.std.proofs.lemmas.Grind.{same_number_lists}
use Rattle.rs01_gf256.specs.Field.{times}
use Rattle.rs01_poly.proofs.Coefficients.{linear_is}
use Rattle.rs01_poly.specs.Polynomial.{times_linear}
use Rattle.rs01_poly.proofs.times_linear.Goals as goal

multiplied : (old xs : List ℕ) (used c v : ℕ) → 0 < used → used < length old → length xs ≡ length (set old used v)
    → v ≡ times c (get_or old (used - 1) 0)
    → ((k : ℕ) → 1 ≤ k → k < used → get_or xs k 0 ≡ bit_xor (get_or (set old used v) k 0) (times c (get_or (set old used v) (k - 1) 0)))
    → get_or xs 0 0 ≡ get_or (set old used v) 0 0
    → get_or xs used 0 ≡ get_or (set old used v) used 0
    → take (used + 1) xs ≡ times_linear (take used old) c
multiplied old xs used c v some room same e done first top =
    let long : length (take used old) ≡ used = length-take-le used old (omega arith) in
    let far : length xs ≡ length old = same ∙ length-set old used v in
    let unset : (k : ℕ) → k < used → get_or (set old used v) k 0 ≡ get_or old k 0 =
    λ k l. (let ne : k ≢ used = omega arith in get_or-set_other old used k v 0 ne) in
    let taken : (k : ℕ) → k < used → get_or (take used old) k 0 ≡ get_or old k 0 = λ k l. get_or-take used old k 0 l in
    let front : (k : ℕ) → k < used + 1 → get_or (take (used + 1) xs) k 0 ≡ get_or xs k 0 = λ k l. get_or-take (used + 1) xs k 0 l in
    linear_is (take used old) (take (used + 1) xs) c (omega arith)
    (length-take-le (used + 1) xs (omega arith) ∙ ap (λ n. n + 1) (sym long))
    (front 0 (omega arith) ∙ first ∙ unset 0 some ∙ sym (taken 0 some))
    (λ j l.
    let back : j + 1 - 1 ≡ j = omega arith in
    front (j + 1) (omega arith) ∙ done (j + 1) (omega arith) (omega arith)
    ∙ (λ i. bit_xor ((unset (j + 1) (omega arith) ∙ sym (taken (j + 1) (omega arith))) i)
    (times c ((ap (λ k. get_or (set old used v) k 0) back ∙ unset j (omega arith) ∙ sym (taken j (omega arith))) i))))
    (rw long (front used (omega arith) ∙ top ∙ get_or-set_same old used v 0 room ∙ e ∙ ap (times c) (sym (taken (used - 1) (omega arith)))))

above_stays : (old xs : List ℕ) (used v : ℕ) → length xs ≡ length (set old used v)
    → ((k : ℕ) → used ≤ k → get_or xs k 0 ≡ get_or (set old used v) k 0)
    → drop (used + 1) xs ≡ drop (used + 1) old
above_stays old xs used v same above =
    let same_rest : length (drop (used + 1) xs) ≡ length (drop (used + 1) old) =
    length-drop (used + 1) xs ∙ ap (λ n. n - (used + 1)) (same ∙ length-set old used v) ∙ sym (length-drop (used + 1) old) in
    same_number_lists (drop (used + 1) xs) (drop (used + 1) old) same_rest
    (λ k l.
    let ne : used + 1 + k ≢ used = omega arith in
    get_or-drop (used + 1) xs k 0 ∙ above (used + 1 + k) (omega arith)
    ∙ get_or-set_other old used (used + 1 + k) v 0 ne
    ∙ sym (get_or-drop (used + 1) old k 0))

pub returns-clause-product : goal.returns-clause-product
returns-clause-product c =
    multiplied c.args.coeffs.now _ _ c.args.root.0 _ c.requires.some c.requires.room c.loop-k.auto.coeffs c.mul-last.ensures
    (λ k g l. c.loop-k.invariant.done k (omega arith) l) (c.loop-k.invariant.left 0 (omega arith)) (c.loop-k.invariant.above c.args.used (omega arith))

pub returns-clause-rest : goal.returns-clause-rest
returns-clause-rest c = above_stays c.args.coeffs.now _ c.args.used _ c.loop-k.auto.coeffs c.loop-k.invariant.above
