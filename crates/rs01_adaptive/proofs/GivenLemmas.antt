-- The layers that were given are few.
use Rattle.std.proofs.Common.{◌≡◌, ℕ, suc, ◌<◌, ◌≤◌, ⊎_elim, List, [], ◌∷◌, length, sym, ap, ◌∙◌, arith, Bool, true, false, eqb}
use Rattle.std.specs.Prelude.{◌||◌, Contains}
use Rattle.std.specs.List.{AllByRecursion, IsDistinct, list_any}
use Rattle.std.proofs.lemmas.Bool.{cases_eq, ne_eqb, false≢true}
use Rattle.std.proofs.lemmas.Map.Steps.{length-le_from_distinct_below}
use Rattle.rs01_turns.specs.Leads.{IsOnce}

later : (x : ℕ) (xs : List ℕ) (l : ℕ) → Contains xs l → Contains (x ∷ xs) l
later x xs l c = (suc c.0, omega (arith, c.1), c.2)

apart : (x : ℕ) (xs : List ℕ) → (Contains xs x → ⊥) → AllByRecursion (λ y. eqb x y ≡ false) xs
apart x [] none = tt
apart x (y ∷ ys) none = (
  ne_eqb x y (λ (e : x ≡ y). none (0, omega arith, sym e)),
  apart x ys (λ c. none (later y ys x c)),
)

distinct : (xs : List ℕ) → IsOnce xs → IsDistinct eqb xs
unfolding IsDistinct
distinct [] once = tt
distinct (x ∷ xs) once = (apart x xs once.0, distinct xs once.1)

among : (q : ℕ) (xs : List ℕ) → list_any (eqb q) xs ≡ true → Contains xs q
among q [] e = absurd (false≢true e)
among q (x ∷ xs) e = ⊎_elim
    (λ (same : q ≡ x). (0, omega arith, sym same))
    (λ (other : q ≡ x → ⊥). later x xs q (among q xs (sym (ap (λ (b : Bool). b || list_any (eqb q) xs) (ne_eqb q x other)) ∙ e)))
    (cases_eq q x)

-- a list of numbers below n, none of them twice, has n ones at most
pub once_few : (xs : List ℕ) (n : ℕ) → IsOnce xs → ((l : ℕ) → Contains xs l → l < n) → length xs ≤ n
once_few xs n once there = length-le_from_distinct_below xs n (distinct xs once) (λ q is. there q (among q xs is))
