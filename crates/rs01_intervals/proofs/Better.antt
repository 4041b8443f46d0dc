-- The better of two runs, and the longest run of a list.
use Rattle.std.proofs.Common.{◌≡◌, ℕ, ◌+◌, ◌<◌, ◌≤◌, ⊎_elim, List, [], ◌∷◌, length, refl, sym, ap, ◌∙◌, arith, ltb, eqb}
use Rattle.std.specs.Prelude.{Some, None, Bool, ◌≢◌}
use Rattle.std.proofs.lemmas.Bool.{cases_lt, lt-ltb, le-ltb, eq-eqb, ne_eqb, cond-true, cond-false}
use Rattle.std.proofs.lemmas.List.Sums.{prefix_len-le-length}
use Rattle.rs01_intervals.specs.Runs.{head_len, better, best_run, behind, bounds}

pub takes-second : (a b : ℕ × ℕ) → a.1 < b.1 → better a b ≡ b
unfolding better
takes-second a b less = cond-true (ltb a.1 b.1) b a (lt-ltb a.1 b.1 less)

pub keeps-first : (a b : ℕ × ℕ) → b.1 ≤ a.1 → better a b ≡ a
unfolding better
keeps-first a b most = cond-false (ltb a.1 b.1) b a (le-ltb a.1 b.1 most)

-- three runs in a row may be compared in either order
pub better-assoc : (a b c : ℕ × ℕ) → better (better a b) c ≡ better a (better b c)
better-assoc a b c =
    ⊎_elim
    (λ less. ⊎_elim
    (λ up. rw (takes-second a b less, takes-second b c up, takes-second a c (omega arith)))
    (λ down. rw (takes-second a b less, keeps-first b c down, takes-second a b less))
    (cases_lt b.1 c.1))
    (λ most. ⊎_elim
    (λ up. rw (keeps-first a b most, takes-second b c up))
    (λ down. rw (keeps-first a b most, keeps-first b c down, keeps-first a b most, keeps-first a c (omega arith)))
    (cases_lt b.1 c.1))
    (cases_lt a.1 b.1)

pub behind-better : (count : ℕ) (a b : ℕ × ℕ) → behind count (better a b) ≡ better (behind count a) (behind count b)
behind-better count a b =
    ⊎_elim
    (λ less. rw (takes-second a b less, takes-second (behind count a) (behind count b) less))
    (λ most. rw (keeps-first a b most, keeps-first (behind count a) (behind count b) most))
    (cases_lt a.1 b.1)

pub run-is : {start len start' len' : ℕ} → start ≡ start' → len ≡ len' → ◌≡◌ {A = ℕ × ℕ} (start, len) (start', len')
run-is p q = cc

pub behind-none : (run : ℕ × ℕ) → behind 0 run ≡ run
behind-none run = run-is {len = run.1} (omega arith) refl

-- of two runs with the same start, the second has all flags of the first
pub better-there : (start len more : ℕ) → len ≤ more → better (start, len) (start, more) ≡ (start, more)
better-there start len more h =
    ⊎_elim
    (λ less. takes-second (start, len) (start, more) less)
    (λ most. keeps-first (start, len) (start, more) most ∙ run-is refl (omega arith))
    (cases_lt len more)

pub head-fits : (xs : List Bool) → head_len xs ≤ length xs
head-fits xs = prefix_len-le-length (λ (flag : Bool). flag) xs

-- the longest run doesn't reach past the list
pub best-fits : (xs : List Bool) → (best_run xs).0 + (best_run xs).1 ≤ length xs
unfolding best_run better
best-fits [] = omega arith
best-fits (x ∷ xs) = grind (arith, best-fits xs, head-fits (x ∷ xs))

-- the run at the front adds nothing to the longest one
pub head-is-tried : (xs : List Bool) → better (0, head_len xs) (best_run xs) ≡ best_run xs
unfolding best_run
head-is-tried [] = keeps-first (0, 0) (0, 0) (omega arith)
head-is-tried (x ∷ xs) =
    let head : ℕ × ℕ = (0, head_len (x ∷ xs)) in
    sym (better-assoc head head (behind 1 (best_run xs)))
    ∙ ap (λ (run : ℕ × ℕ). better run (behind 1 (best_run xs))) (keeps-first head head (omega arith))

pub bounds-none : (run : ℕ × ℕ) → run.1 ≡ 0 → bounds run ≡ None
bounds-none run none = cond-true (eqb run.1 0) None (Some (run.0, run.0 + run.1)) (eq-eqb run.1 0 none)

pub bounds-some : (run : ℕ × ℕ) → run.1 ≢ 0 → bounds run ≡ Some (run.0, run.0 + run.1)
bounds-some run some = cond-false (eqb run.1 0) None (Some (run.0, run.0 + run.1)) (ne_eqb run.1 0 some)
