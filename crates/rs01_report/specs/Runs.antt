-- How a rising list of sectors is printed: its count, and its runs of neighbours.
use Rattle.std.specs.Prelude.{ℕ, ◌+◌, ◌==◌, if◌then◌else◌, List, [], ◌∷◌, ◌++◌, length, map, codes}
use Rattle.std.specs.List.{join_with_byte}
use Rattle.std.specs.Fmt.{decimal}

-- a run of neighbouring numbers, by its first and its last one
abbrev pub Run : Type 0
Run = ℕ × ℕ

-- a number before runs: it joins the first one where that begins with its neighbour
abbrev pub before_runs : ℕ → List Run → List Run
before_runs s [] = (s, s) ∷ []
before_runs s (run ∷ later) = if run.0 == s + 1 then (s, run.1) ∷ later else (s, s) ∷ run ∷ later

-- the maximal runs of a rising list
unfoldable pub runs : List ℕ → List Run
runs [] = []
runs (s ∷ later) = before_runs s (runs later)

-- a run of one number is printed as that number, a longer one as `first-last`
abbrev pub run_text : Run → List ℕ
run_text run = if run.0 == run.1 then decimal run.0 else decimal run.0 ++ (45 ∷ decimal run.1)

-- the runs joined by commas, or `none`
abbrev pub ranges_text : List ℕ → List ℕ
ranges_text [] = codes "none"
ranges_text (s ∷ later) = join_with_byte 44 (map run_text (runs (s ∷ later)))

-- the count and the runs, as `3: 3-4,9`
abbrev pub list_text : List ℕ → List ℕ
list_text list = decimal (length list) ++ (codes ": " ++ ranges_text list)
