-- That no other run is better than the longest one.
use Rattle.std.proofs.Common.{◌≡◌, ℕ, ◌+◌, ◌-◌, ◌<◌, ◌≤◌, ⊎_elim, zero, suc, List, [], ◌∷◌, length, refl, sym, ap, subst, ◌∙◌, arith}
use Rattle.std.specs.Prelude.{Bool, true, false, ◌≢◌, IfSome, Some, None}
use Rattle.std.proofs.lemmas.Bool.{cases_lt, cases_eq, false≢true}
use Rattle.std.proofs.lemmas.List.{get_or_past}
use Rattle.std.proofs.lemmas.List.Sums.{prefix_len_passes, prefix_len_stops}
use Rattle.rs01_intervals.specs.Runs.{head_len, better, best_run, behind, longest}
use Rattle.rs01_intervals.specs.Maximal.{flag_at, IsRun, IsMaximal}
use Rattle.rs01_intervals.proofs.Better.{keeps-first, takes-second, bounds-none, bounds-some}

never-below : (k : ℕ) → k < 0 → ⊥
never-below k h = omega arith

-- a flag that is set lies within the list
pub set-is-there : (xs : List Bool) (place : ℕ) → flag_at xs place ≡ true → place < length xs
set-is-there xs place set =
    ⊎_elim (λ in_. in_) (λ out. absurd (false≢true (sym (get_or_past xs place false out) ∙ set))) (cases_lt place (length xs))

at-place : (xs : List Bool) {j k : ℕ} → j ≡ k → flag_at xs j ≡ flag_at xs k
at-place xs e = ap (λ (n : ℕ). flag_at xs n) e

-- the run at the front, and the flag behind it
head-is-run : (xs : List Bool) → IsRun xs 0 (head_len xs)
head-is-run xs k below = at-place xs (omega arith) ∙ prefix_len_passes (λ (flag : Bool). flag) xs k false below

-- no run from the front on goes further
head-is-most : (xs : List Bool) (len : ℕ) → IsRun xs 0 len → len ≤ head_len xs
head-is-most xs len run =
    ⊎_elim
    (λ less.
    let set : flag_at xs (head_len xs) ≡ true = at-place xs (omega arith) ∙ run (head_len xs) less in
    absurd (false≢true (sym (prefix_len_stops (λ (flag : Bool). flag) xs false (set-is-there xs (head_len xs) set)) ∙ set)))
    (λ most. most)
    (cases_lt (head_len xs) len)

-- a run once a flag is put in front, and taken from there
run-behind : (x : Bool) (xs : List Bool) (start len : ℕ) → IsRun xs start len → IsRun (x ∷ xs) (1 + start) len
run-behind x xs start len run k below = at-place (x ∷ xs) {k = suc (start + k)} (omega arith) ∙ run k below

run-before : (x : Bool) (xs : List Bool) (start len : ℕ) → IsRun (x ∷ xs) (suc start) len → IsRun xs start len
run-before x xs start len run k below = at-place (x ∷ xs) {j = suc (start + k)} (omega arith) ∙ run k below

best-is-run : (xs : List Bool) → IsRun xs (best_run xs).0 (best_run xs).1
unfolding best_run
best-is-run [] = λ k below. absurd (never-below k below)
best-is-run (x ∷ xs) =
    let head : ℕ × ℕ = (0, head_len (x ∷ xs)) in
    let later : ℕ × ℕ = behind 1 (best_run xs) in
    ⊎_elim
    (λ less. subst (λ (run : ℕ × ℕ). IsRun (x ∷ xs) run.0 run.1) (sym (takes-second head later less)) (run-behind x xs (best_run xs).0 (best_run xs).1 (best-is-run xs)))
    (λ most. subst (λ (run : ℕ × ℕ). IsRun (x ∷ xs) run.0 run.1) (sym (keeps-first head later most)) (head-is-run (x ∷ xs)))
    (cases_lt (head_len (x ∷ xs)) (best_run xs).1)

none-in-nothing : (start len : ℕ) → IsRun [] start len → len ≤ 0
none-in-nothing start zero run = omega arith
none-in-nothing start (suc len) run = absurd (false≢true (run 0 (omega arith)))

best-is-most : (xs : List Bool) (start len : ℕ) → IsRun xs start len → len ≤ (best_run xs).1
unfolding best_run better
best-is-most [] start len run = none-in-nothing start len run
best-is-most (x ∷ xs) zero len run = grind (arith, head-is-most (x ∷ xs) len run)
best-is-most (x ∷ xs) (suc start) len run = grind (arith, best-is-most xs start len (run-before x xs start len run))

best-is-first : (xs : List Bool) (start len : ℕ) → IsRun xs start len → 1 ≤ len → len ≡ (best_run xs).1 → (best_run xs).0 ≤ start
unfolding best_run better
best-is-first [] start len run some e = omega arith
best-is-first (x ∷ xs) zero len run some e = grind (arith, head-is-most (x ∷ xs) len run)
best-is-first (x ∷ xs) (suc start) len run some e =
    let rest = run-before x xs start len run in
    grind (arith, best-is-most xs start len rest, best-is-first xs start len rest some)

-- a flag that is set, as a run of one
one-run : (xs : List Bool) (place : ℕ) → flag_at xs place ≡ true → IsRun xs place 1
one-run xs place set k below = at-place xs (omega arith) ∙ set

-- a flag beside a run
run-after : (xs : List Bool) (start len : ℕ) → IsRun xs start len → flag_at xs (start + len) ≡ true → IsRun xs start (1 + len)
run-after xs start len run set k below =
    ⊎_elim (λ less. run k less) (λ most. at-place xs (omega arith) ∙ set) (cases_lt k len)

run-from-before : (xs : List Bool) (start place len : ℕ) → 1 + place ≡ start → IsRun xs start len → flag_at xs place ≡ true → IsRun xs place (1 + len)
run-from-before xs start place len e run set zero below = at-place xs (omega arith) ∙ set
run-from-before xs start place len e run set (suc k) below = at-place xs (omega arith) ∙ run k (omega arith)

clear-or-set : (flag : Bool) → (flag ≡ true → ⊥) → flag ≡ false
clear-or-set true never = absurd (never refl)
clear-or-set false never = refl

-- the longest run has no flag beside it
best-is-maximal : (xs : List Bool) → (best_run xs).1 ≢ 0 → IsMaximal xs ((best_run xs).0, (best_run xs).0 + (best_run xs).1)
best-is-maximal xs some =
    let run = best-is-run xs in
    let start = (best_run xs).0 in
    let len = (best_run xs).1 in
    let longer : (n : ℕ) → n ≤ len → 1 + len ≡ n → ⊥ = λ n h e. omega arith in
    record {
      some = omega arith;
      set = λ place from below. at-place xs {k = start + (place - start)} (omega arith) ∙ run (place - start) (omega arith);
      before = λ place e. clear-or-set (flag_at xs place) (λ set. longer (1 + len) (best-is-most xs place (1 + len) (run-from-before xs start place len e run set)) refl);
      behind = clear-or-set (flag_at xs (start + len)) (λ set. longer (1 + len) (best-is-most xs start (1 + len) (run-after xs start len run set)) refl);
    }

-- what holds of the longest run where there is one, holds of the answer
for-answer : (xs : List Bool) (P : ℕ × ℕ → Type 0) → ((best_run xs).1 ≢ 0 → P ((best_run xs).0, (best_run xs).0 + (best_run xs).1)) → IfSome (longest xs) P
unfolding longest
for-answer xs P holds =
    ⊎_elim
    (λ none. subst (λ (answer : _). IfSome answer P) (sym (bounds-none (best_run xs) none)) tt)
    (λ some. subst (λ (answer : _). IfSome answer P) (sym (bounds-some (best_run xs) some)) (holds some))
    (cases_eq (best_run xs).1 0)

pub longest-is-maximal : (xs : List Bool) → IfSome (longest xs) (IsMaximal xs)
longest-is-maximal xs = for-answer xs (IsMaximal xs) (best-is-maximal xs)

pub none-is-longer : (xs : List Bool) (start len : ℕ) → IsRun xs start len → IfSome (longest xs) (λ run. run.0 + len ≤ run.1)
none-is-longer xs start len run = for-answer xs (λ (best : ℕ × ℕ). best.0 + len ≤ best.1) (λ some. omega (arith, best-is-most xs start len run))

pub none-is-before : (xs : List Bool) (start len : ℕ) → IsRun xs start len → IfSome (longest xs) (λ run. run.1 ≤ run.0 + len → run.0 ≤ start)
none-is-before xs start len run =
    for-answer xs (λ (best : ℕ × ℕ). best.1 ≤ best.0 + len → best.0 ≤ start)
    (λ some as-long. best-is-first xs start len run (omega arith) (omega (arith, best-is-most xs start len run)))

some-is-not-none : (run : ℕ × ℕ) → Some run ≡ None → ⊥
some-is-not-none run e = cc

pub none-means-clear : (xs : List Bool) → longest xs ≡ None → (place : ℕ) → flag_at xs place ≡ false
unfolding longest
none-means-clear xs none place =
    ⊎_elim
    (λ empty. clear-or-set (flag_at xs place) (λ set. never-below 0 (omega (arith, empty, best-is-most xs place 1 (one-run xs place set)))))
    (λ some. absurd (some-is-not-none _ (sym (bounds-some (best_run xs) some) ∙ none)))
    (cases_eq (best_run xs).1 0)
