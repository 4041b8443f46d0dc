-- What holds of the runs of a list.
use Rattle.std.specs.Prelude.{◌≡◌, ◌≢◌, ℕ, ◌+◌, ◌-◌, List, [], ◌∷◌, ◌++◌}
use Rattle.std.specs.List.{range_with_len}
use Rattle.rs01_report.specs.Runs.{Run, runs}

-- the numbers of runs, first to last
abbrev pub numbers_of : List Run → List ℕ
numbers_of [] = []
numbers_of (run ∷ later) = range_with_len run.0 (run.1 + 1 - run.0) ++ numbers_of later

-- no run begins with the neighbour of the number where the one before it ends
abbrev pub AreApart : List Run → Type 0
AreApart [] = Unit {0}
AreApart (run ∷ []) = Unit {0}
AreApart (run ∷ next ∷ later) = (next.0 ≢ run.1 + 1) × AreApart (next ∷ later)

-- the runs of a list have its numbers, and no others
abbrev pub RunsKeepTheList : Type 0
RunsKeepTheList = (list : List ℕ) → numbers_of (runs list) ≡ list

-- no two of them can be joined
abbrev pub RunsAreMaximal : Type 0
RunsAreMaximal = (list : List ℕ) → AreApart (runs list)
