-- How far a reading into an image file y has come.
use Rattle.std.specs.Prelude.{ℕ, ◌≡◌, ◌<◌, ◌≤◌, ◌⊎◌, ◌++◌, ◌+◌, ◌-◌, ◌*◌, Bool, true, false, IsSomeAnd, IsTrue, List, [], Option, Some, OnOk, Result, Ok, Err, drop, length, take}
use Rattle.rs01_lists.specs.Bytes.{part}
use Rattle.rs01_layers.specs.Sectors.{length_of}
use Rattle.rs01_outside.specs.Files.{Files, WritesAt}
use Rattle.rs01_outside.specs.DeskState.{DeskState}
use Rattle.rs01_outside.specs.DriveView.{DriveView}
use Rattle.rs01_rack.specs.Rack.{AllTell, RackState, views_of}
use Rattle.rs01_ecchead.specs.Erased.{Known, is_erased}
use Rattle.rs01_linear.specs.Course.{Manner, manner_of, read_to}
use Rattle.rs01_linear.specs.Lasting.{AllRoseBy, RackLasts}
use Rattle.rs01_linear.specs.Left.{first_fates, image_left, marked, mixed}
use Rattle.rs01_linear.specs.Marking.{IsMixed, place}
use Rattle.rs01_linear.specs.Medium.{known_of}
use Rattle.rs01_linear.specs.Report.{unread}
use Rattle.rs01_linear.specs.Spared.{AsksBad, GuardsOn, GuardsRun, Spares}
use Rattle.rs01_linear.specs.declared.fate.Fate.{Fate}
use Rattle.rs01_linear.specs.declared.medium.Medium.{Medium}
use Rattle.rs01_linear.specs.declared.reading.Reading.{Reading}
use Rattle.rs01_linear.specs.declared.refusal.ReadRefusal.{ReadRefusal}

-- the run that isn't written yet ends before sector s: it has the bytes of the sectors from its first one on
pub record HasRun (known : Known) (s : ℕ) (reading : Reading) : Type 0 where
  pub all : length reading.fates.items ≡ known.sectors
  pub order : reading.first ≤ s
  pub long : length reading.bytes.items ≡ place known s - place known reading.first

-- the run was written if there is one
abbrev pub PutsRun : (old new : Files) → (name : List ℕ) → (past : ℕ) → Reading → Result Unit ReadRefusal → Type 0
PutsRun old new name past reading result =
    ((past ≤ reading.first) × (new ≡ old)) ⊎ ((reading.first < past) × WritesAt old new name (2048 * reading.first) reading.bytes.items result)

-- the same of a call on a desk that tells
abbrev pub TellsPut : List ℕ → ℕ → (old new : DeskState) → Reading → Result Unit ReadRefusal → Type 0
TellsPut name past old new reading result = IsTrue old.tells → PutsRun old.files new.files name past reading result

-- an empty run begins with a sector, and none is asked for before the same place
pub record Begins (first : ℕ) (was is : Reading) : Type 0 where
  pub first_is : is.first ≡ first
  pub bytes_are : is.bytes.items ≡ []
  pub next_is : is.next ≡ was.next

-- drives and what is kept, once the sectors below s were passed
pub record Follows (known : Known) (manner : Manner) (y : List ℕ) (views : List DriveView) (s : ℕ) (rack : RackState) (reading : Reading) : Type 0 where
  pub views_are : views_of rack ≡ (read_to known manner y views s).views
  pub next_is : reading.next ≡ (read_to known manner y views s).next
  pub fates_are : reading.fates.items ≡ (read_to known manner y views s).fates ++ drop s (first_fates known y)

-- the image file has the bytes that are left below the first sector of the run, and the run has those from there to s
pub record Runs (known : Known) (manner : Manner) (y : List ℕ) (views : List DriveView) (s : ℕ) (reading : Reading) (file : Option (List ℕ)) : Type 0 where
  pub file_is : file ≡ Some (mixed (place known reading.first) (image_left known manner y views) (marked known y))
  pub run_is : reading.bytes.items ≡ part (image_left known manner y views) (place known reading.first) (place known s - place known reading.first)

-- drives, what is kept and the image file, once the sectors below s were passed
pub record Stands (known : Known) (manner : Manner) (y : List ℕ) (views : List DriveView) (s : ℕ) (rack : RackState) (reading : Reading) (file : Option (List ℕ)) : Type 0 where
  pub follows : Follows known manner y views s rack reading
  pub runs : Runs known manner y views s reading file

-- what is left at the place of sector s: its block where it was read, and else what is there once it is marked
abbrev pub Gives : Known → Manner → List ℕ → List DriveView → ℕ → List ℕ → Bool → Type 0
Gives known manner y views s block true =
    part (image_left known manner y views) (place known s) (length_of known.sectors known.last_bytes s) ≡ take (length_of known.sectors known.last_bytes s) block
Gives known manner y views s block false =
    part (image_left known manner y views) (place known s) (length_of known.sectors known.last_bytes s) ≡ part (marked known y) (place known s) (length_of known.sectors known.last_bytes s)

-- sector s was taken
pub record Taken (known : Known) (manner : Manner) (y : List ℕ) (views : List DriveView) (s : ℕ) (rack : RackState) (reading : Reading) (block : List ℕ) (read : Bool) : Type 0 where
  pub follows : Follows known manner y views (s + 1) rack reading
  pub gives : Gives known manner y views s block read

-- only a sector that wasn't good was read, and only such ones may be asked for
pub record TakesBad (known : Known) (y : List ℕ) (s : ℕ) (fates : List Fate) (read : Bool) : Type 0 where
  pub later : AsksBad known y fates
  pub here : read ≡ true → is_erased known y s ≡ true

-- what taking sector s tells: it leaves the run as it is
pub record TellsTake (medium : Medium) (s jump tries : ℕ) (block : List ℕ) (was is : Reading) (read : Bool) (old new : RackState) : Type 0 where
  pub first_is : is.first ≡ was.first
  pub bytes_are : is.bytes.items ≡ was.bytes.items
  pub taken :
      (y : List ℕ) (views : List DriveView) → AllTell new → Follows (known_of medium) (manner_of jump tries) y views s old was
      → Taken (known_of medium) (manner_of jump tries) y views s new is block read
  pub bad : (y : List ℕ) → AsksBad (known_of medium) y was.fates.items → TakesBad (known_of medium) y s is.fates.items read

-- a write failed while sector s was passed: the drives were asked so far, and the file is on the way
pub record Halts (known : Known) (manner : Manner) (y : List ℕ) (views : List DriveView) (s : ℕ) (rack : RackState) (file : Option (List ℕ)) : Type 0 where
  pub views_are : views_of rack ≡ (read_to known manner y views (s + 1)).views
  pub file_is : IsMixed (image_left known manner y views) (marked known y) file

-- how passing sector s ends
abbrev pub Passes : {T E : Type 0} → Known → Manner → List ℕ → List DriveView → ℕ → RackState → Reading → Option (List ℕ) → Result T E → Type 0
Passes known manner y views s rack reading file (Ok value) = Stands known manner y views (s + 1) rack reading file
Passes known manner y views s rack reading file (Err why) = Halts known manner y views s rack file

-- the drives were asked for the sectors below some place at most, and the file is on the way
pub record Halted (known : Known) (manner : Manner) (y : List ℕ) (views : List DriveView) (rack : RackState) (file : Option (List ℕ)) : Type 0 where
  pub passed : ℕ
  pub inside : passed ≤ known.sectors
  pub views_are : views_of rack ≡ (read_to known manner y views passed).views
  pub file_is : IsMixed (image_left known manner y views) (marked known y) file

-- all sectors were passed, and the run was written
pub record Passed (known : Known) (manner : Manner) (y : List ℕ) (views : List DriveView) (rack : RackState) (reading : Reading) (file : Option (List ℕ)) : Type 0 where
  pub views_are : views_of rack ≡ (read_to known manner y views known.sectors).views
  pub fates_are : reading.fates.items ≡ (read_to known manner y views known.sectors).fates ++ drop known.sectors (first_fates known y)
  pub file_is : file ≡ Some (mixed (place known known.sectors) (image_left known manner y views) (marked known y))

-- how passing all sectors ends
abbrev pub PassesAll : {T E : Type 0} → Known → Manner → List ℕ → List DriveView → RackState → Reading → Option (List ℕ) → Result T E → Type 0
PassesAll known manner y views rack reading file (Ok value) = Passed known manner y views rack reading file
PassesAll known manner y views rack reading file (Err why) = Halted known manner y views rack file

-- how passing sector s ends, where the desk tells: as it should where the drives tell too, from wherever the reading
-- stood, and in any case what is good in the file stays
pub record TellsPass {T E : Type 0} (medium : Medium) (s jump tries : ℕ) (name : List ℕ) (desk desk' : DeskState) (was is : Reading) (result : Result T E) (old new : RackState) : Type 0 where
  pub stands :
      (y : List ℕ) (views : List DriveView) → IsTrue desk.tells → AllTell new → Stands (known_of medium) (manner_of jump tries) y views s old was (desk.files name)
      → Passes (known_of medium) (manner_of jump tries) y views s new is (desk'.files name) result
  pub run : OnOk result (HasRun (known_of medium) (s + 1) is)
  pub stays : (y : List ℕ) → IsTrue desk.tells → GuardsRun (known_of medium) y s was (desk.files name) → GuardsOn (known_of medium) y (s + 1) is (desk'.files name) result

-- the same of passing all sectors, from the first one on
pub record TellsPasses {T E : Type 0} (medium : Medium) (jump tries : ℕ) (name : List ℕ) (desk desk' : DeskState) (was is : Reading) (result : Result T E) (old new : RackState) : Type 0 where
  pub stands :
      (y : List ℕ) (views : List DriveView) → IsTrue desk.tells → AllTell new → Stands (known_of medium) (manner_of jump tries) y views 0 old was (desk.files name)
      → PassesAll (known_of medium) (manner_of jump tries) y views new is (desk'.files name) result
  pub stays : (y : List ℕ) → IsTrue desk.tells → GuardsRun (known_of medium) y 0 was (desk.files name) → IsSomeAnd (desk'.files name) (Spares (known_of medium) y)

-- what passing sectors keeps, whatever is told: the drives, how many sectors there are, and that each one that no drive
-- answered for raised each drive's count
pub record Keeps (was is : Reading) (old new : RackState) : Type 0 where
  pub lasts : RackLasts old new
  pub all : length is.fates.items ≡ length was.fates.items
  pub rose : AllRoseBy (unread is.fates.items - unread was.fates.items) old new
