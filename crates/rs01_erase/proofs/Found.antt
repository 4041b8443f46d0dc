-- The first that passes, and what a map or a filter of numbers holds.
use Rattle.std.proofs.Common.{◌≡◌, ℕ, zero, suc, ◌<◌, List, [], ◌∷◌, length, get_or, map, refl, sym, ap, ◌∙◌, subst, arith, Bool, true, false, cond, Option, Some, None}
use Rattle.std.specs.List.{find, filter, Contains}
use Rattle.std.proofs.lemmas.Bool.{cond-true, cond-false, cond_both}

pub find_first : (p : ℕ → Bool) (xs : List ℕ) (k : ℕ) → k < length xs → p (get_or xs k 0) ≡ true
    → ((j : ℕ) → j < k → p (get_or xs j 0) ≡ false) → find p xs ≡ Some (get_or xs k 0)
find_first p [] k h passes before = absurd (omega arith)
find_first p (x ∷ xs) zero h passes before = cond-true (p x) (Some x) (find p xs) passes
find_first p (x ∷ xs) (suc k) h passes before =
    cond-false (p x) (Some x) (find p xs) (before 0 (omega arith)) ∙ find_first p xs k (omega arith) passes (λ j l. before (suc j) (omega arith))

pub find_none : (p : ℕ → Bool) (xs : List ℕ) → ((j : ℕ) → j < length xs → p (get_or xs j 0) ≡ false) → find p xs ≡ None
find_none p [] fails = refl
find_none p (x ∷ xs) fails =
    cond-false (p x) (Some x) (find p xs) (fails 0 (omega arith)) ∙ find_none p xs (λ j l. fails (suc j) (omega arith))

not_found : (b : Bool) (x : ℕ) (o : Option ℕ) → cond b (Some x) o ≡ None → (b ≡ false) × (o ≡ None)
not_found true x o e = absurd (let never : ⊥ = cc in never)
not_found false x o e = (refl, e)

pub none_passes : (p : ℕ → Bool) (xs : List ℕ) (j : ℕ) → find p xs ≡ None → j < length xs → p (get_or xs j 0) ≡ false
none_passes p [] j e h = absurd (omega arith)
none_passes p (x ∷ xs) zero e h = (not_found (p x) x (find p xs) e).0
none_passes p (x ∷ xs) (suc j) e h = none_passes p xs j (not_found (p x) x (find p xs) e).1 (omega arith)

pub find_same : (p q : ℕ → Bool) (xs : List ℕ) → ((j : ℕ) → j < length xs → p (get_or xs j 0) ≡ q (get_or xs j 0)) → find p xs ≡ find q xs
find_same p q [] same = refl
find_same p q (x ∷ xs) same =
    let later : find p xs ≡ find q xs = find_same p q xs (λ j l. same (suc j) (omega arith)) in
    (λ i. cond (same 0 (omega arith) i) (Some x) (later i))

pub map_same : {B : Type 0} (f g : ℕ → B) (xs : List ℕ) → ((j : ℕ) → j < length xs → f (get_or xs j 0) ≡ g (get_or xs j 0)) → map f xs ≡ map g xs
map_same f g [] same = refl
map_same f g (x ∷ xs) same =
    let later : map f xs ≡ map g xs = map_same f g xs (λ j l. same (suc j) (omega arith)) in
    (λ i. same 0 (omega arith) i ∷ later i)

-- a filter keeps what passes
pub kept : (p : ℕ → Bool) (xs : List ℕ) (k x : ℕ) → k < length xs → get_or xs k x ≡ x → p x ≡ true → Contains (filter p xs) x
kept p [] k x h e passes = absurd (omega arith)
kept p (y ∷ ys) zero x h e passes =
    let P : List ℕ → Type 0 = λ l. Contains l x in
    let here : Contains (y ∷ filter p ys) x = (0, omega arith, e) in
    subst P (sym (cond-true (p y) (y ∷ filter p ys) (filter p ys) (ap p e ∙ passes))) here
kept p (y ∷ ys) (suc k) x h e passes =
    let later : Contains (filter p ys) x = kept p ys k x (omega arith) e passes in
    cond_both (p y) (y ∷ filter p ys) (filter p ys) (λ l. Contains l x)
    (λ _. (suc later.0, omega (arith, later.1), later.2)) (λ _. later)
