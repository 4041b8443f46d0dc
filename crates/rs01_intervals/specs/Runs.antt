-- The longest run of set flags, found by search.
use Rattle.std.specs.Prelude.{ℕ, ◌+◌, ◌==◌, nat_lt, if◌then◌else◌, Bool, List, [], ◌∷◌, Option, Some, None}
use Rattle.std.specs.List.{prefix_len}

-- how many flags are set, one after the other, from the first on
abbrev pub head_len : List Bool → ℕ
head_len flags = prefix_len (λ flag. flag) flags

-- of two runs, each told by start and length, the second where it is longer, else the first
unfoldable pub better : ℕ × ℕ → ℕ × ℕ → ℕ × ℕ
better first second = if nat_lt first.1 second.1 then second else first

-- where a run of a list lies once so many flags are put in front
abbrev pub behind : ℕ → ℕ × ℕ → ℕ × ℕ
behind count run = (count + run.0, run.1)

-- start and length of the longest run: of the runs from each place on, the first that none exceeds
unfoldable pub best_run : List Bool → ℕ × ℕ
best_run [] = (0, 0)
best_run (flag ∷ flags) = better (0, head_len (flag ∷ flags)) (behind 1 (best_run flags))

-- start and end of a run, or none where it is empty
abbrev pub bounds : ℕ × ℕ → Option (ℕ × ℕ)
bounds run = if run.1 == 0 then None else Some (run.0, run.0 + run.1)

-- the longest run by its start and its end
unfoldable pub longest : List Bool → Option (ℕ × ℕ)
longest flags = bounds (best_run flags)
