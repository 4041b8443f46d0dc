-- What a reading by turns gives back where the error correction file is intact, and where all that passes for a sector of
-- the original is that sector. image is the original, and c what its error correction file says.
use Rattle.std.specs.Prelude.{ℕ, ◌≡◌, ◌<◌, ◌⊎◌, ◌&&◌, Bool, false, not, true, All, Contains, List, [], filter, Option, Some, Result, IfOk, IsSomeAnd, IsTrue}
use Rattle.std.specs.Borrow.{Bor}
use Rattle.std.specs.List.{range_with_len}
use Rattle.std.specs.Option.{unwrap_or}
use Rattle.rs01_layers.specs.Sectors.{sector}
use Rattle.rs01_outside.specs.DeskState.{DeskState}
use Rattle.rs01_outside.specs.DriveView.{DriveView}
use Rattle.rs01_rack.specs.Rack.{AllTell, RackState, views_of}
use Rattle.rs01_report.specs.declared.reports.ReadReport.{ReadReport}
use Rattle.rs01_ecchead.specs.Erased.{Known, known_by}
use Rattle.rs01_ecchead.specs.Opened.{Opened}
use Rattle.rs01_repair.specs.Intact.{HasTheOthers, Protects}
use Rattle.rs01_fix.specs.ComesBack.{IsSectorOf}
use Rattle.rs01_linear.specs.Asking.{as_block, is_good}
use Rattle.rs01_linear.specs.Medium.{Found, file_given}
use Rattle.rs01_linear.specs.declared.refusal.ReadRefusal.{ReadRefusal}
use Rattle.rs01_turns.specs.Layers.{lies_within}
use Rattle.rs01_adaptive.specs.Outcome.{OfWhole}
use Rattle.rs01_adaptive.specs.Whole.{IsShapeOf, Whole, end_in, image_left, is_open_in, report_of}

-- a drive may give these bytes for a sector: they are coming, or they are what stays
abbrev pub MayGive : DriveView → ℕ → List ℕ → Type 0
MayGive view s bytes = (s < view.number) × (Contains (view.coming s) (Some bytes) ⊎ (view.steady s ≡ Some bytes))

-- whatever a drive may give that passes for a sector is the original's
abbrev pub GivesOriginal : List ℕ → Known → DriveView → Type 0
GivesOriginal image known view =
    (s : ℕ) (bytes : List ℕ) → s < known.sectors → MayGive view s bytes → is_good known s (Some bytes) ≡ true → as_block known s bytes ≡ sector image s

-- the medium of an error correction file
abbrev pub found_by : Opened → Found
found_by c = record { known = known_by c; opened = Some c }

-- the reading begins so: the file is intact, and whatever passes for a sector of the original is it, both in the image
-- file and in the drives
pub record BeginsSound (image file : List ℕ) (r : ℕ) (c : Opened) (w : Whole) : Type 0 where
  pub protects : Protects file image r c
  pub medium_is : w.medium ≡ found_by c
  pub shape_is : IsShapeOf (Some c) w.shape
  pub has : HasTheOthers image c w.image
  pub given : All (GivesOriginal image (known_by c)) w.views

-- whether the layer of a sector is settled in the end
abbrev pub is_settled : Whole → ℕ → Bool
is_settled w s = lies_within w.shape (end_in w).states s

-- a file and a report after the reading: every sector of a settled layer is the original's, and so is every other one that
-- was good in the end; exactly the other sectors are lost, and no layer is strange
pub record ComesBack (image : List ℕ) (c : Opened) (w : Whole) (file : List ℕ) (told : ReadReport) : Type 0 where
  pub settled : (s : ℕ) → s < c.fields.sectors → is_settled w s ≡ true → IsSectorOf image c file s
  pub good : (s : ℕ) → s < c.fields.sectors → is_open_in w s ≡ false → IsSectorOf image c file s
  pub restored : told.restored ≡ filter (λ s. is_open_in w s && is_settled w s) (range_with_len 0 c.fields.sectors)
  pub lost : told.lost ≡ filter (λ s. is_open_in w s && not (is_settled w s)) (range_with_len 0 c.fields.sectors)
  pub strange : told.strange ≡ []

-- that is so for every original, redundancy, damage and answers of drives
abbrev pub SettledComeBack : Type 0
SettledComeBack = (image file : List ℕ) (r : ℕ) (c : Opened) (w : Whole) (asked : ℕ) → BeginsSound image file r c w
    → ComesBack image c w (image_left w) (report_of w asked)

-- it is so after a reading of a medium with such a file, from drives with these views, into an image file of these bytes
abbrev pub GivesBack : Option (Option (List ℕ)) → ℕ → List DriveView → (before file : Option (List ℕ)) → Result ReadReport ReadRefusal → Type 0
GivesBack given tries views before file result =
    (image ecc : List ℕ) (r : ℕ) (c : Opened) → given ≡ Some (Some ecc) → Protects ecc image r c → HasTheOthers image c (unwrap_or before [])
    → All (GivesOriginal image (known_by c)) views
    → IfOk result (λ told. IsSomeAnd file (λ now. OfWhole (found_by c) tries (unwrap_or before []) views (λ w. ComesBack image c w now told)))

-- the same of a reading into the named image, where the desk and the drives tell
abbrev pub BringsBack : (desk desk' : DeskState) → Option (Bor (List ℕ)) → ℕ → List ℕ → Result ReadReport ReadRefusal → (old new : RackState) → Type 0
BringsBack desk desk' ecc tries name result old new =
    IsTrue desk.tells → AllTell new → GivesBack (file_given desk ecc) tries (views_of old) (desk.files name) (desk'.files name) result
