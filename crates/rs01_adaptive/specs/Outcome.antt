-- What a reading by turns into a named image leaves and answers. The image file before is empty where it wasn't there.
use Rattle.std.specs.Prelude.{ℕ, ◌≡◌, ◌<◌, ◌≤◌, ◌⊎◌, IsSomeAnd, IsTrue, List, [], Option, Some, Result, drop, length, slice_index}
use Rattle.std.specs.Borrow.{Bor}
use Rattle.std.specs.Option.{unwrap_or}
use Rattle.rs01_layers.specs.declared.shape.Shape.{Shape}
use Rattle.rs01_outside.specs.DeskState.{DeskState}
use Rattle.rs01_outside.specs.DriveView.{DriveView}
use Rattle.rs01_rack.specs.Rack.{AllTell, RackState, views_of}
use Rattle.rs01_ecchead.specs.Erased.{image_len}
use Rattle.rs01_report.specs.declared.reports.ReadReport.{ReadReport}
use Rattle.rs01_linear.specs.Lasting.{CountsAsks}
use Rattle.rs01_linear.specs.Left.{marked}
use Rattle.rs01_turns.specs.Stops.{AllAskedPart}
use Rattle.rs01_linear.specs.Medium.{Found, file_given}
use Rattle.rs01_linear.specs.Outcome.{ReadsBy, asked_since}
use Rattle.rs01_linear.specs.declared.refusal.ReadRefusal.{ReadRefusal}
use Rattle.rs01_adaptive.specs.Whole.{IsShapeOf, Whole, end_in, image_left, known_in, report_of}

-- the reading of a medium that was found, with the shape of its file
abbrev pub whole : Found → Option Shape → ℕ → List ℕ → List DriveView → Whole
whole medium shape tries image views = record { medium = medium; shape = shape; tries = tries; image = image; views = views }

-- what holds of that reading
pub record OfWhole (medium : Found) (tries : ℕ) (image : List ℕ) (views : List DriveView) (Fact : Whole → Type 0) : Type 0 where
  pub shape : Option Shape
  pub shape_is : IsShapeOf medium.opened shape
  pub fact : Fact (whole medium shape tries image views)

-- a medium was read to its end: the image file, the drives and what is told are those of the whole reading
pub record IsReadInto (old new : RackState) (file : Option (List ℕ)) (told : ReadReport) (w : Whole) : Type 0 where
  pub file_is : file ≡ Some (image_left w)
  pub views_are : views_of new ≡ (end_in w).views
  pub told_is : told ≡ report_of w (asked_since old new)
  -- the rack's count of asks rose by as many as the drives' lists of asks show more
  pub asks : CountsAsks old new

-- a file that isn't shorter than the old one and has the old one's bytes behind the image, of which each byte is that of one
-- of two files
pub record IsBetween (w : Whole) (one other : List ℕ) (file : List ℕ) : Type 0 where
  pub longer : length w.image ≤ length file
  pub surplus : drop (image_len (known_in w)) file ≡ drop (image_len (known_in w)) w.image
  pub bytes : (k : ℕ) → k < length file → k < image_len (known_in w)
      → (slice_index file k ≡ slice_index one k) ⊎ (slice_index file k ≡ slice_index other k)

-- no drive was asked: the image file is as it was, or each byte is the old one or that of the marked file
pub record IsUnasked (drives : List DriveView) (before file : Option (List ℕ)) (w : Whole) : Type 0 where
  pub views_are : drives ≡ w.views
  pub file_is : (file ≡ before) ⊎ IsSomeAnd file (IsBetween w w.image (marked (known_in w) w.image))

-- it wasn't: from the start on the drives were asked for some first sectors. As long as they were for none, markers may be
-- on their way into the image file; afterwards each byte is that of the marked file or of the file that is left at the end
pub record IsLeftAt (drives : List DriveView) (before file : Option (List ℕ)) (w : Whole) : Type 0 where
  pub number : length drives ≡ length w.views
  pub asked : AllAskedPart w.views drives (end_in w).views
  pub file_is : IsUnasked drives before file w ⊎ IsSomeAnd file (IsBetween w (marked (known_in w) w.image) (image_left w))

-- what a reading leaves and answers, where the desk and the drives tell
abbrev pub Reads : Option (Option (List ℕ)) → ℕ → (old new : RackState) → (before file : Option (List ℕ)) → Result ReadReport ReadRefusal → Type 0
Reads given tries old new before file result =
    ReadsBy given old new before file
    (λ told medium. OfWhole medium tries (unwrap_or before []) (views_of old) (IsReadInto old new file told))
    (λ medium. OfWhole medium tries (unwrap_or before []) (views_of old) (IsLeftAt (views_of new) before file)) result

-- the same of a reading into the named image, and only there where both tell
abbrev pub TellsReading : (desk desk' : DeskState) → Option (Bor (List ℕ)) → ℕ → List ℕ → Result ReadReport ReadRefusal → (old new : RackState) → Type 0
TellsReading desk desk' ecc tries name result old new =
    IsTrue desk.tells → AllTell new → Reads (file_given desk ecc) tries old new (desk.files name) (desk'.files name) result
