-- Lists with an element changed, and sums over them.
use Rattle.std.proofs.Common.{◌≡◌, ◌≢◌, ℕ, zero, suc, ◌+◌, ◌<◌, ◌≤◌, ◌⊎◌, cond, List, [], ◌∷◌, ◌++◌, length, set, refl, ap, arith, ⊎_elim, inl, inr, slice_get, Option, Some, None, replicate}
use Rattle.std.specs.Option.{option_copied, IsSome}
use denote.Bor.{Bor}
use Rattle.std.proofs.lemmas.Bool.{eq-eqb}
use Rattle.std.proofs.lemmas.Bool.Decides.{nat_tests}
use Rattle.rs01_window.specs.declared.status.Status.{Status}
use Rattle.rs01_window.specs.declared.status.Status.TheVariants.{Idle, Waits, Holds, Over}
use Rattle.rs01_window.specs.declared.events.CoreGiven.{CoreGiven}
use Rattle.rs01_window.specs.Soundness.{total, same_test, busy, filled, filled_at}

abbrev or_else : {A : Type 0} → A → Option A → A
or_else d None = d
or_else d (Some x) = x

pub some_same : {A : Type 0} (a b : A) → Some a ≡ Some b → a ≡ b
some_same a b e = ap (or_else a) e

pub at_set : {A : Type 0} (l : List A) (i j : ℕ) (a b : A) → slice_get (set l i a) j ≡ Some b → ((j ≡ i) × (a ≡ b)) ⊎ ((j ≢ i) × (slice_get l j ≡ Some b))
at_set [] i j a b e = absurd cc
at_set (x ∷ xs) zero zero a b e = inl (refl, some_same a b e)
at_set (x ∷ xs) zero (suc j) a b e = inr ((λ h. omega arith), e)
at_set (x ∷ xs) (suc i) zero a b e = inr ((λ h. omega arith), e)
at_set (x ∷ xs) (suc i) (suc j) a b e = ⊎_elim (λ t. inl (ap suc t.0, t.1)) (λ t. let n = t.0 in inr ((λ h. n (omega arith)), t.1)) (at_set xs i j a b e)

pub set_here : {A : Type 0} (l : List A) (i : ℕ) (a : A) → i < length l → slice_get (set l i a) i ≡ Some a
set_here [] i a h = absurd (omega arith)
set_here (x ∷ xs) zero a h = refl
set_here (x ∷ xs) (suc i) a h = set_here xs i a (omega arith)

pub set_else : {A : Type 0} (l : List A) (i j : ℕ) (a : A) → j ≢ i → slice_get (set l i a) j ≡ slice_get l j
set_else [] i j a n = refl
set_else (x ∷ xs) zero zero a n = absurd (n refl)
set_else (x ∷ xs) zero (suc j) a n = refl
set_else (x ∷ xs) (suc i) zero a n = refl
set_else (x ∷ xs) (suc i) (suc j) a n = set_else xs i j a (λ e. n (ap suc e))

pub at_snoc : {A : Type 0} (l : List A) (a b : A) (j : ℕ) → slice_get (l ++ a ∷ []) j ≡ Some b → (slice_get l j ≡ Some b) ⊎ ((j ≡ length l) × (a ≡ b))
at_snoc [] a b zero e = inr (refl, some_same a b e)
at_snoc [] a b (suc j) e = absurd cc
at_snoc (x ∷ xs) a b zero e = inl e
at_snoc (x ∷ xs) a b (suc j) e = ⊎_elim (λ h. inl h) (λ h. inr (ap suc h.0, h.1)) (at_snoc xs a b j e)

pub within : {A : Type 0} (l : List A) (i : ℕ) (a : A) → slice_get l i ≡ Some a → i < length l
within [] i a e = absurd cc
within (x ∷ xs) zero a e = omega arith
within (x ∷ xs) (suc i) a e = let r = within xs i a e in omega arith

pub there : {A : Type 0} (l : List A) (i : ℕ) → i < length l → (a : A) × (slice_get l i ≡ Some a)
there [] i h = absurd (omega arith)
there (x ∷ xs) zero h = (x, refl)
there (x ∷ xs) (suc i) h = there xs i (omega arith)

pub total-set : {A : Type 0} (f : A → ℕ) (l : List A) (i : ℕ) (v w : A) → slice_get l i ≡ Some v → total f (set l i w) + f v ≡ total f l + f w
total-set f [] i v w e = absurd cc
total-set f (y ∷ l) zero v w e = let is : f y ≡ f v = ap f (some_same y v e) in omega arith
total-set f (y ∷ l) (suc i) v w e = let r = total-set f l i v w e in omega arith

pub total-snoc : {A : Type 0} (f : A → ℕ) (l : List A) (w : A) → total f (l ++ w ∷ []) ≡ total f l + f w
total-snoc f [] w = omega arith
total-snoc f (y ∷ l) w = let r = total-snoc f l w in omega arith

pub total-one : {A : Type 0} (f : A → ℕ) (l : List A) (i : ℕ) (v : A) → slice_get l i ≡ Some v → f v ≤ total f l
total-one f [] i v e = absurd cc
total-one f (y ∷ l) zero v e = let is : f y ≡ f v = ap f (some_same y v e) in omega arith
total-one f (y ∷ l) (suc i) v e = let r = total-one f l i v e in omega arith

pub total-few : {A : Type 0} (f : A → ℕ) (l : List A) → ((a : A) → f a ≤ 1) → total f l ≤ length l
total-few f [] h = omega arith
total-few f (y ∷ l) h = let r = total-few f l h in let one = h y in omega arith

pub busy_le : (s : Status) → busy s ≤ 1
busy_le Idle = omega arith
busy_le (Waits t) = omega arith
busy_le (Holds t) = omega arith
busy_le Over = omega arith

pub filled_le : (r : Option CoreGiven) → filled r ≤ 1
filled_le None = omega arith
filled_le (Some g) = omega arith

pub same_self : (t : ℕ) → same_test t t ≡ 1
same_self t = ap (λ b. cond b 1 0) (eq-eqb t t refl)

pub same_other : (x y : ℕ) → x ≢ y → same_test x y ≡ 0
same_other x y ne = grind (arith, nat_tests)

pub idle_total : (f : Status → ℕ) → f Idle ≡ 0 → (k : ℕ) → total f (replicate k Idle) ≡ 0
idle_total f e zero = refl
idle_total f e (suc k) = let r = idle_total f e k in omega arith

pub result_snoc : (l : List (Option CoreGiven)) (x : ℕ) → filled_at (slice_get (l ++ None ∷ []) x) ≡ filled_at (slice_get l x)
result_snoc [] zero = refl
result_snoc [] (suc x) = refl
result_snoc (r ∷ l) zero = refl
result_snoc (r ∷ l) (suc x) = result_snoc l x

pub some_copied : {A : Type 0} (o : Option (Bor A)) (a : A) → option_copied o ≡ Some a → IsSome o
some_copied None a e = absurd cc
some_copied (Some b) a e = refl

pub past : {A : Type 0} (l : List A) (i : ℕ) → length l ≤ i → slice_get l i ≡ None
past [] i h = refl
past (x ∷ xs) zero h = absurd (omega arith)
past (x ∷ xs) (suc i) h = past xs i (omega arith)
