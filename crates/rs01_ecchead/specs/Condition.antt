-- How a sector was found.
use Rattle.std.specs.Prelude.{ℕ, ◌≡◌, ◌||◌, Bool, not, List, Option, if◌then◌else◌}
use Rattle.std.specs.Str.{bytes_eq}
use Rattle.rs01_sums.specs.Marker.{marker}
use Rattle.rs01_sums.specs.Usable.{is_usable}
use Rattle.rs01_ecchead.specs.Erased.{Known, block_in, is_absent, is_altered, is_missing}
use Rattle.rs01_ecchead.specs.declared.condition.Condition.{Condition}
use Rattle.rs01_ecchead.specs.declared.condition.Condition.TheVariants.{Altered, Missing, Sound}

-- by its block, where it is there
abbrev pub judged : Bool → Option (List ℕ) → ℕ → List ℕ → Condition
judged there sums s block =
    if not there || bytes_eq block (marker s) then Missing
    else if is_usable sums s block then Sound
    else Altered

-- by the image file y
abbrev pub condition_of : Known → List ℕ → ℕ → Condition
condition_of known y s = if is_missing known y s then Missing else if is_altered known y s then Altered else Sound

-- a sector is judged by what the image file has for it as the definitions of the missing and the altered ones say
abbrev pub IsJudgedByTheFile : Type 0
IsJudgedByTheFile = (known : Known) (y : List ℕ) (s : ℕ)
    → judged (not (is_absent known y s)) known.sums s (block_in known y s) ≡ condition_of known y s
