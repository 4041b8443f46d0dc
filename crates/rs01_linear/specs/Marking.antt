-- How the bytes of a file come to be those of another one, first to last.
use Rattle.std.specs.Prelude.{ℕ, ◌≡◌, ◌-◌, ◌*◌, ◌≤◌, ◌<◌, Bool, true, false, IsTrue, List, Option, Some, Result, Ok, Err, length, min, slice_get, take}
use Rattle.std.specs.List.{flat_map, range_with_len}
use Rattle.std.specs.Option.{option_map}
use Rattle.rs01_outside.specs.DeskState.{DeskState}
use Rattle.rs01_ecchead.specs.Erased.{Known, image_len}
use Rattle.rs01_layers.specs.Sectors.{length_of}
use Rattle.rs01_layers.specs.declared.extent.Extent.{Extent}
use Rattle.rs01_sums.specs.Marker.{marker}
use Rattle.rs01_linear.specs.Asking.{known_with}
use Rattle.rs01_linear.specs.Left.{first_fates, marked, mixed}
use Rattle.rs01_linear.specs.declared.fate.Fate.{Fate}
use Rattle.rs01_linear.specs.declared.fate.Fate.TheVariants.{Altered, Kept, LeftOut, Read, Unreadable}

-- where sector s begins, and where the image ends for s at or past their number
abbrev pub place : Known → ℕ → ℕ
place known s = min (2048 * s) (image_len known)

-- some first bytes are those of the one file, and the others are those of the other
abbrev pub IsMixed : (one other : List ℕ) → Option (List ℕ) → Type 0
IsMixed one other file = (n : ℕ) × (file ≡ Some (mixed n one other))

-- the first m bytes were those of the one file; then they are so to where the answer says, and after a fault to some place
abbrev pub Extends : {T E : Type 0} → (one other name : List ℕ) → ℕ → (T → ℕ) → (old new : DeskState) → Result T E → Type 0
Extends one other name m to old new (Ok value) = IsTrue old.tells → old.files name ≡ Some (mixed m one other) → new.files name ≡ Some (mixed (to value) one other)
Extends one other name m to old new (Err why) = IsTrue old.tells → old.files name ≡ Some (mixed m one other) → IsMixed one other (new.files name)

-- whether a sector isn't good and wasn't asked for
abbrev pub is_left_out : Fate → Bool
is_left_out Kept = false
is_left_out Read = false
is_left_out Unreadable = false
is_left_out Altered = false
is_left_out LeftOut = true

-- neighbouring sectors from the first one on, at most 64, that aren't good
pub record IsRun (fates : List Fate) (first past : ℕ) : Type 0 where
  pub order : first ≤ past
  pub inside : past ≤ length fates
  pub all : (k : ℕ) → first ≤ k → k < past → option_map is_left_out (slice_get fates k) ≡ Some true
  pub none : past ≡ first → option_map is_left_out (slice_get fates first) ≡ Some false

-- the markers of neighbouring sectors, each as long as its sector
abbrev pub markers_of : Extent → (first past : ℕ) → List ℕ
markers_of extent first past =
    flat_map (λ s. take (length_of extent.sectors extent.last_bytes s) (marker s)) (range_with_len first (past - first))

-- marking of the sectors that aren't good in the file y: below the first they had their markers, and now they do below
-- where the answer says, and after a fault to some place
abbrev pub Marks : {T E : Type 0} → Extent → List Fate → List ℕ → ℕ → (T → ℕ) → (old new : DeskState) → Result T E → Type 0
Marks extent fates name first to old new result =
    (sums : Option (List ℕ)) (y : List ℕ) → let known = known_with extent sums in
    fates ≡ first_fates known y → Extends (marked known y) y name (place known first) (λ value. place known (to value)) old new result
