-- What a person is told to do next, by what a run has put.
use Rattle.std.specs.Prelude.{ℕ, List, [], ◌∷◌, ◌++◌, Bool, not, ◌&&◌, ◌||◌, ◌==◌, Option, Some, None, codes, length, find, nat_le, if◌then◌else◌}
use Rattle.std.specs.Fmt.{decimal}
use Rattle.std.specs.Str.{bytes_eq}
use Rattle.rs01_help.specs.declared.hint.Hint.{Hint}
use Rattle.rs01_help.specs.Reading.{fullest_in, holds, number_after}

-- of a layer of which this many sectors are erased, and this many can be restored: whether it can be repaired
unfoldable pub restorable : ℕ → ℕ → List ℕ
restorable erased parity =
    codes "hint: the fullest layer has lost " ++ (decimal erased ++ (codes " of at most " ++ (decimal parity
    ++ (codes ": fix can restore every sector" ++ 10 ∷ []))))

unfoldable pub beyond : ℕ → ℕ → List ℕ
beyond erased parity =
    codes "hint: the fullest layer has lost " ++ (decimal erased ++ (codes " of at most " ++ (decimal parity
    ++ (codes ": read more of the disc first, also in another drive" ++ 10 ∷ []))))

-- every sector can be restored exactly where no layer has lost more than its bound
abbrev pub verdict_of : Option (ℕ × ℕ) → List ℕ
verdict_of None = []
verdict_of (Some (erased, parity)) =
    if erased == 0 then [] else (if nat_le erased parity then restorable erased parity else beyond erased parity)

unfoldable pub verdict : List ℕ → List ℕ
verdict heads = verdict_of (fullest_in heads)

abbrev pub is_empty : List ℕ → Bool
is_empty text = length text == 0

-- whether a hint fits: each of its conditions holds or is empty
unfoldable pub fits : ℕ → List ℕ → List ℕ → Hint → Bool
fits status command heads hint =
    (hint.status == status)
    && ((is_empty hint.command.now || bytes_eq hint.command.now command)
    && ((is_empty hint.holds.now || holds hint.holds.now heads)
    && (is_empty hint.lacks.now || not (holds hint.lacks.now heads))))

-- the number behind a label, where there is one
abbrev pub told_count : Option ℕ → List ℕ
told_count None = []
told_count (Some count) = decimal count ++ codes " "

unfoldable pub count_part : List ℕ → List ℕ → List ℕ
count_part label heads = if is_empty label then [] else told_count (number_after label heads)

-- a hint, with what it counts
unfoldable pub hint_line : Option Hint → List ℕ → List ℕ
hint_line None heads = []
hint_line (Some hint) heads = codes "hint: " ++ (count_part hint.counts.now heads ++ (hint.text.now ++ 10 ∷ []))

-- whether all can be restored, and the first hint that fits
unfoldable pub hint_lines : List Hint → ℕ → List ℕ → List ℕ → List ℕ
hint_lines hints status command heads = verdict heads ++ hint_line (find (fits status command heads) hints) heads
