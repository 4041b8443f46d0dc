-- Sums over lists, and how often a number occurs.
use Rattle.std.proofs.Common.{◌≡◌, ◌≢◌, ℕ, zero, suc, ◌+◌, ◌<◌, ◌≤◌, List, [], ◌∷◌, ◌++◌, length, set, sym, refl, ap, ◌∙◌, arith, ⊎_elim, subst}
use mathlib.Core.Option.{some, some-injective, some-ne-none}
use lib.ListN.{get_elem?}
use Rattle.std.proofs.lemmas.Bool.{cases_lt}
use Rattle.std.proofs.lemmas.Bool.Decides.{nat_tests}
pub use Rattle.rs01_window.proofs.ListLemmas.{total-snoc, same_self, same_other}
use Rattle.rs01_window.specs.Soundness.{total, same_test}
use Rattle.rs01_table.specs.Rule.{below_test}

pub total-set : {A : Type 0} (f : A → ℕ) (l : List A) (i : ℕ) (v w : A) → get_elem? l i ≡ some v → total f (set l i w) + f v ≡ total f l + f w
total-set f [] i v w e = absurd (some-ne-none v (sym e))
total-set f (y ∷ l) zero v w e = let is : f y ≡ f v = ap f (some-injective y v e) in omega arith
total-set f (y ∷ l) (suc i) v w e = let r = total-set f l i v w e in omega arith

pub total-kept : {A : Type 0} (f : A → ℕ) (l : List A) (i : ℕ) (v w : A) → get_elem? l i ≡ some v → f w ≡ f v → total f (set l i w) ≡ total f l
total-kept f l i v w e same = omega (arith, total-set f l i v w e)

pub total-append : {A : Type 0} (f : A → ℕ) (l m : List A) → total f (l ++ m) ≡ total f l + total f m
total-append f [] m = omega arith
total-append f (y ∷ l) m = let r = total-append f l m in omega arith

pub total-le : {A : Type 0} (f g : A → ℕ) (l : List A) → ((i : ℕ) (v : A) → get_elem? l i ≡ some v → f v ≤ g v) → total f l ≤ total g l
total-le f g [] h = omega arith
total-le f g (y ∷ l) h = let one : f y ≤ g y = h zero y refl in let more : total f l ≤ total g l = total-le f g l (λ i v e. h (suc i) v e) in omega arith

-- one element's share in a sum
pub total-one : {A : Type 0} (f : A → ℕ) (l : List A) (i : ℕ) (v : A) → get_elem? l i ≡ some v → f v ≤ total f l
total-one f [] i v e = absurd (some-ne-none v (sym e))
total-one f (y ∷ l) zero v e = let is : f y ≡ f v = ap f (some-injective y v e) in omega arith
total-one f (y ∷ l) (suc i) v e = let r = total-one f l i v e in omega arith

-- the same with one element apart
pub total-less : {A : Type 0} (f g : A → ℕ) (l : List A) (i : ℕ) (v : A) → get_elem? l i ≡ some v → ((j : ℕ) (u : A) → get_elem? l j ≡ some u → f u ≤ g u) → total f l + g v ≤ total g l + f v
total-less f g [] i v e h = absurd (some-ne-none v (sym e))
total-less f g (y ∷ l) zero v e h =
    let is : f y ≡ f v = ap f (some-injective y v e) in
    let is' : g y ≡ g v = ap g (some-injective y v e) in
    let more : total f l ≤ total g l = total-le f g l (λ j u e'. h (suc j) u e') in
    omega arith
total-less f g (y ∷ l) (suc i) v e h =
    let one : f y ≤ g y = h zero y refl in
    let r = total-less f g l i v e (λ j u e'. h (suc j) u e') in
    omega arith

-- two elements' share in a sum
pub total-two : {A : Type 0} (f : A → ℕ) (l : List A) (i j : ℕ) (v u : A) → get_elem? l i ≡ some v → get_elem? l j ≡ some u → j ≢ i → f v + f u ≤ total f l
total-two f [] i j v u e e' ne = absurd (some-ne-none v (sym e))
total-two f (y ∷ l) zero zero v u e e' ne = absurd (ne refl)
total-two f (y ∷ l) zero (suc j) v u e e' ne = let is : f y ≡ f v = ap f (some-injective y v e) in let r = total-one f l j u e' in omega arith
total-two f (y ∷ l) (suc i) zero v u e e' ne = let is : f y ≡ f u = ap f (some-injective y u e') in let r = total-one f l i v e in omega arith
total-two f (y ∷ l) (suc i) (suc j) v u e e' ne = let r = total-two f l i j v u e e' (λ h. ne (ap suc h)) in omega arith

-- a sum that is positive has an element that is
pub total-some : {A : Type 0} (f : A → ℕ) (l : List A) → 0 < total f l → (i : ℕ) × (v : A) × (get_elem? l i ≡ some v) × (0 < f v)
total-some f [] h = absurd (omega arith)
total-some f (y ∷ l) h = ⊎_elim
    (λ here. (0, y, refl, here))
    (λ none_here. let r = total-some f l (omega arith) in (suc r.0, r.1, r.2, r.3))
    (cases_lt 0 (f y))

pub total-zero : {A : Type 0} (f : A → ℕ) (l : List A) → ((j : ℕ) (u : A) → get_elem? l j ≡ some u → f u ≡ 0) → total f l ≡ 0
total-zero f [] h = refl
total-zero f (y ∷ l) h = let one : f y ≡ 0 = h zero y refl in let r = total-zero f l (λ j u e. h (suc j) u e) in omega arith

-- a sum with one element that isn't zero
pub total-only : {A : Type 0} (f : A → ℕ) (l : List A) (i : ℕ) (v : A) → get_elem? l i ≡ some v → ((j : ℕ) (u : A) → get_elem? l j ≡ some u → j ≢ i → f u ≡ 0) → total f l ≡ f v
total-only f [] i v e h = absurd (some-ne-none v (sym e))
total-only f (y ∷ l) zero v e h =
    let is : f y ≡ f v = ap f (some-injective y v e) in
    let rest_none : total f l ≡ 0 = total-zero f l (λ j u e'. h (suc j) u e' (λ z. omega arith)) in
    omega arith
total-only f (y ∷ l) (suc i) v e h =
    let one : f y ≡ 0 = h zero y refl (λ z. omega arith) in
    let r = total-only f l i v e (λ j u e' ne. h (suc j) u e' (λ z. ne (omega arith))) in
    omega arith

pub times_le : {A : Type 0} (of : A → ℕ) (k : ℕ) (l : List A) → total (λ a. same_test k (of a)) l ≤ length l
times_le of k [] = omega arith
times_le of k (y ∷ l) = let r = times_le of k l in let one : same_test k (of y) ≤ 1 = grind (arith, nat_tests) in omega arith

pub same_yes : (x y : ℕ) → 0 < same_test x y → x ≡ y
same_yes x y h = grind (arith, nat_tests)

pub below_le : (x n : ℕ) → below_test x n ≤ 1
below_le x n = grind (arith, nat_tests)

pub below_none : (x : ℕ) → below_test x 0 ≡ 0
below_none x = grind (arith, nat_tests)

pub below_more : (x n : ℕ) → below_test x n + same_test x n ≡ below_test x (n + 1)
below_more x n = grind (arith, nat_tests)

-- the sum of f 0, f 1, .. f (m - 1)
abbrev pub spread : (ℕ → ℕ) → ℕ → ℕ
spread f zero = 0
spread f (suc m) = spread f m + f m

pub spread-le : (f : ℕ → ℕ) (m : ℕ) → ((x : ℕ) → f x ≤ 1) → spread f m ≤ m
spread-le f zero h = omega arith
spread-le f (suc m) h = let r = spread-le f m h in let one = h m in omega arith

pub spread-zero : (m : ℕ) → spread (λ _. 0) m ≡ 0
spread-zero zero = refl
spread-zero (suc m) = let r = spread-zero m in omega arith

pub spread-add : (f g : ℕ → ℕ) (m : ℕ) → spread (λ x. f x + g x) m ≡ spread f m + spread g m
spread-add f g zero = refl
spread-add f g (suc m) = let r = spread-add f g m in omega arith

pub spread-mono : (f g : ℕ → ℕ) (m : ℕ) → ((x : ℕ) → f x ≤ g x) → spread f m ≤ spread g m
spread-mono f g zero h = omega arith
spread-mono f g (suc m) h = let r = spread-mono f g m h in let one = h m in omega arith

spread-out : (y m : ℕ) → m ≤ y → spread (λ x. same_test x y) m ≡ 0
spread-out y zero h = refl
spread-out y (suc m) h = let r = spread-out y m (omega arith) in let apart : same_test m y ≡ 0 = grind (arith, nat_tests) in omega arith

pub spread-same : (y m : ℕ) → y < m → spread (λ x. same_test x y) m ≡ 1
spread-same y zero h = absurd (omega arith)
spread-same y (suc m) h = ⊎_elim
    (λ l. let r = spread-same y m l in let apart : same_test m y ≡ 0 = grind (arith, nat_tests) in omega arith)
    (λ g. let e : y ≡ m = omega arith in let r = spread-out y m (omega arith) in let here : same_test m y ≡ 1 = grind (arith, nat_tests) in omega arith)
    (cases_lt y m)

-- a list of things with numbers below m has as many things as its numbers occur below m
pub spread-list : {A : Type 0} (f : A → ℕ) (m : ℕ) (l : List A) → ((i : ℕ) (v : A) → get_elem? l i ≡ some v → f v < m)
    → spread (λ x. total (λ v. same_test x (f v)) l) m ≡ length l
spread-list f m [] h = spread-zero m
spread-list f m (y ∷ l) h =
    let one = spread-same (f y) m (h zero y refl) in
    let more = spread-list f m l (λ i v e. h (suc i) v e) in
    spread-add (λ x. same_test x (f y)) (λ x. total (λ v. same_test x (f v)) l) m ∙ omega arith

-- the same for lists in a list
pub spread-lists : {A B : Type 0} (of : B → List A) (f : A → ℕ) (m : ℕ) (l : List B) → ((i : ℕ) (b : B) → get_elem? l i ≡ some b → (j : ℕ) (v : A) → get_elem? (of b) j ≡ some v → f v < m)
    → spread (λ x. total (λ b. total (λ v. same_test x (f v)) (of b)) l) m ≡ total (λ b. length (of b)) l
spread-lists of f m [] h = spread-zero m
spread-lists of f m (y ∷ l) h =
    let one = spread-list f m (of y) (h zero y refl) in
    let more = spread-lists of f m l (λ i v e. h (suc i) v e) in
    spread-add (λ x. total (λ v. same_test x (f v)) (of y)) (λ x. total (λ b. total (λ v. same_test x (f v)) (of b)) l) m ∙ omega arith

pub each_snoc : {A : Type 0} (P : ℕ → A → Type 0) (l : List A) (w : A) → ((k : ℕ) (v : A) → get_elem? l k ≡ some v → P k v) → P (length l) w
    → (k : ℕ) (v : A) → get_elem? (l ++ w ∷ []) k ≡ some v → P k v
each_snoc P [] w h p zero v e = subst (P 0) (some-injective w v e) p
each_snoc P [] w h p (suc k) v e = absurd (some-ne-none v (sym e))
each_snoc P (y ∷ l) w h p zero v e = h zero v e
each_snoc P (y ∷ l) w h p (suc k) v e = each_snoc (λ i. P (suc i)) l w (λ i u e'. h (suc i) u e') p k v e
