-- The runs of a list have its numbers, and are maximal.
use Rattle.std.proofs.Common.{◌≡◌, ℕ, suc, ◌+◌, ◌-◌, ◌≤◌, List, [], ◌∷◌, ◌++◌, refl, sym, ap, ◌∙◌, subst, ⊎_elim, eqb, arith}
use Rattle.std.specs.List.{range_with_len}
use Rattle.std.proofs.lemmas.Bool.{cases_eq, eq-eqb, ne_eqb, cond-true, cond-false}
use Rattle.rs01_report.specs.Runs.{Run, before_runs, runs}
use Rattle.rs01_report.specs.Maximal.{numbers_of, AreApart, RunsKeepTheList, RunsAreMaximal}

-- no run ends before it begins
abbrev AreOrdered : List Run → Type 0
AreOrdered [] = Unit {0}
AreOrdered (run ∷ later) = (run.0 ≤ run.1) × AreOrdered later

joins : (s : ℕ) (run : Run) (later : List Run) → run.0 ≡ s + 1 → before_runs s (run ∷ later) ≡ (s, run.1) ∷ later
joins s run later e = cond-true (eqb run.0 (s + 1)) ((s, run.1) ∷ later) ((s, s) ∷ run ∷ later) (eq-eqb run.0 (s + 1) e)

begins : (s : ℕ) (run : Run) (later : List Run) → (run.0 ≡ s + 1 → ⊥) → before_runs s (run ∷ later) ≡ (s, s) ∷ run ∷ later
begins s run later e = cond-false (eqb run.0 (s + 1)) ((s, run.1) ∷ later) ((s, s) ∷ run ∷ later) (ne_eqb run.0 (s + 1) e)

one : (s : ℕ) → range_with_len s (s + 1 - s) ≡ s ∷ []
one s = ap (range_with_len s) (let e : s + 1 - s ≡ 1 = omega arith in e)

ordered_before : (s : ℕ) (all : List Run) → AreOrdered all → AreOrdered (before_runs s all)
ordered_before s [] h = ((let e : s ≤ s = omega arith in e), tt)
ordered_before s (run ∷ later) h =
    ⊎_elim
    (λ e. subst AreOrdered (sym (joins s run later e)) ((let low : run.0 ≤ run.1 = h.0 in let f : s ≤ run.1 = omega arith in f), h.1))
    (λ e. subst AreOrdered (sym (begins s run later e)) ((let f : s ≤ s = omega arith in f), h))
    (cases_eq run.0 (s + 1))

numbers_before : (s : ℕ) (all : List Run) → AreOrdered all → numbers_of (before_runs s all) ≡ s ∷ numbers_of all
numbers_before s [] h = ap (λ xs. xs ++ []) (one s)
numbers_before s (run ∷ later) h =
    ⊎_elim
    (λ e.
    let low : run.0 ≤ run.1 = h.0 in
    let longer : run.1 + 1 - s ≡ suc (run.1 + 1 - run.0) = omega arith in
    ap numbers_of (joins s run later e)
    ∙ ap (λ n. range_with_len s n ++ numbers_of later) longer
    ∙ ap (λ first. s ∷ (range_with_len first (run.1 + 1 - run.0) ++ numbers_of later)) (sym e))
    (λ e. ap numbers_of (begins s run later e) ∙ ap (λ xs. xs ++ numbers_of (run ∷ later)) (one s))
    (cases_eq run.0 (s + 1))

ordered : (list : List ℕ) → AreOrdered (runs list)
unfolding runs
ordered [] = tt
ordered (s ∷ later) = ordered_before s (runs later) (ordered later)

pub runs_keep_the_list : RunsKeepTheList
unfolding runs
runs_keep_the_list [] = refl
runs_keep_the_list (s ∷ later) = numbers_before s (runs later) (ordered later) ∙ ap (λ xs. s ∷ xs) (runs_keep_the_list later)

-- a first run may begin earlier
earlier : (s : ℕ) (run : Run) (later : List Run) → AreApart (run ∷ later) → AreApart ((s, run.1) ∷ later)
earlier s run [] h = tt
earlier s run (next ∷ later) h = h

apart_before : (s : ℕ) (all : List Run) → AreApart all → AreApart (before_runs s all)
apart_before s [] h = tt
apart_before s (run ∷ later) h =
    ⊎_elim
    (λ e. subst AreApart (sym (joins s run later e)) (earlier s run later h))
    (λ e. subst AreApart (sym (begins s run later e)) (e, h))
    (cases_eq run.0 (s + 1))

pub runs_are_maximal : RunsAreMaximal
unfolding runs
runs_are_maximal [] = tt
runs_are_maximal (s ∷ later) = apart_before s (runs later) (runs_are_maximal later)
