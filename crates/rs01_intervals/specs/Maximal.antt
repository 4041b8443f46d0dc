-- How the longest run stands to all other runs.
use Rattle.std.specs.Prelude.{◌≡◌, ℕ, ◌+◌, ◌<◌, ◌≤◌, Bool, true, false, List, IfSome, None, slice_index_or}
use Rattle.rs01_intervals.specs.Runs.{longest}

-- whether a flag is set; past the end none is
abbrev pub flag_at : List Bool → ℕ → Bool
flag_at flags place = slice_index_or flags place false

-- so many flags in a row are set from a place on
abbrev pub IsRun : List Bool → ℕ → ℕ → Type 0
IsRun flags start len = (k : ℕ) → k < len → flag_at flags (start + k) ≡ true

-- the flags from start to end are set, and neither the one before nor the one behind is
pub record IsMaximal (flags : List Bool) (run : ℕ × ℕ) : Type 0 where
  pub some : run.0 < run.1
  pub set : (place : ℕ) → run.0 ≤ place → place < run.1 → flag_at flags place ≡ true
  pub before : (place : ℕ) → 1 + place ≡ run.0 → flag_at flags place ≡ false
  pub behind : flag_at flags run.1 ≡ false

-- the longest run is a maximal run
abbrev pub LongestIsMaximal : Type 0
LongestIsMaximal = (flags : List Bool) → IfSome (longest flags) (IsMaximal flags)

-- no run is longer than it
abbrev pub NoneIsLonger : Type 0
NoneIsLonger = (flags : List Bool) (start len : ℕ) → IsRun flags start len
    → IfSome (longest flags) (λ run. run.0 + len ≤ run.1)

-- no run that is as long starts before it
abbrev pub NoneIsBefore : Type 0
NoneIsBefore = (flags : List Bool) (start len : ℕ) → IsRun flags start len
    → IfSome (longest flags) (λ run. run.1 ≤ run.0 + len → run.0 ≤ start)

-- there is no longest run only where no flag is set
abbrev pub NoneMeansClear : Type 0
NoneMeansClear = (flags : List Bool) → longest flags ≡ None
    → (place : ℕ) → flag_at flags place ≡ false
