-- Scanning a medium: each sector is asked for once, in rising order and with one try a drive.
use Rattle.std.specs.Prelude.{ℕ, zero, suc, ◌≡◌, ◌≤◌, Bool, false, true, List, filter, length, Option, Result, Ok, Err, IfOk, IsOkAnd}
use Rattle.std.specs.List.{range_with_len}
use Rattle.std.specs.Option.{option_map}
use Rattle.rs01_outside.specs.DriveView.{DriveView}
use Rattle.rs01_rack.specs.Rack.{RackState}
use Rattle.rs01_ecchead.specs.Erased.{Known, counts_of}
use Rattle.rs01_ecchead.specs.Opened.{Opened}
use Rattle.rs01_linear.specs.Asking.{ask_drives, kind_of}
use Rattle.rs01_linear.specs.Lasting.{AllRoseBy, RackLasts}
use Rattle.rs01_linear.specs.Medium.{Found, Numbered, found}
use Rattle.rs01_linear.specs.Outcome.{RefusesBy}
use Rattle.rs01_linear.specs.Refusal.{IsOfMedium}
use Rattle.rs01_linear.specs.declared.asking.Asked.{Asked}
use Rattle.rs01_linear.specs.declared.asking.Asked.TheVariants.{Altered, Read, Unreadable}
use Rattle.rs01_linear.specs.declared.refusal.ReadRefusal.{ReadRefusal}
use Rattle.rs01_report.specs.declared.reports.Fullest.{Fullest}
use Rattle.rs01_report.specs.declared.reports.ScanReport.{ScanReport}
use Rattle.rs01_verify.specs.Fullness.{fullest_of}

-- the drives once the first n sectors were asked for
unfoldable pub scan_to : Known → List DriveView → ℕ → List DriveView
scan_to known views zero = views
scan_to known views (suc s) = (ask_drives known s 1 (scan_to known views s)).views

-- what comes of asking for a sector in its turn
abbrev pub asked_at : Known → List DriveView → ℕ → Asked
asked_at known views s = kind_of (ask_drives known s 1 (scan_to known views s))

abbrev pub is_unreadable : Asked → Bool
is_unreadable Read = false
is_unreadable Unreadable = true
is_unreadable Altered = false

abbrev pub is_altered : Asked → Bool
is_altered Read = false
is_altered Unreadable = false
is_altered Altered = true

-- a sector that wasn't read is one of both
abbrev pub is_lost : Asked → Bool
is_lost Read = false
is_lost Unreadable = true
is_lost Altered = true

-- how full the layers of an error correction file are of the sectors that weren't read
abbrev pub scan_fullest : Known → List DriveView → Opened → Fullest
scan_fullest known views c =
    fullest_of (counts_of c.fields.sectors c.fields.parity (λ s. is_lost (asked_at known views s))) c.fields.parity

unfoldable pub scan_report : Found → List DriveView → ScanReport
scan_report found views = record {
  sectors = found.known.sectors;
  unreadable = filter (λ s. is_unreadable (asked_at found.known views s)) (range_with_len 0 found.known.sectors);
  altered = filter (λ s. is_altered (asked_at found.known views s)) (range_with_len 0 found.known.sectors);
  fullest = option_map (scan_fullest found.known views) found.opened;
}

-- all sectors were asked for, and this is what came of it
pub record IsScanned (old new : List DriveView) (report : ScanReport) (medium : Found) : Type 0 where
  pub views : new ≡ scan_to medium.known old medium.known.sectors
  pub told : report ≡ scan_report medium old

-- what a scan that was broken off leaves of the drives: the first sectors of the medium that was found were asked for
abbrev pub BreaksOff : Result Found ReadRefusal → List DriveView → List DriveView → Type 0
BreaksOff (Err why) old new = new ≡ old
BreaksOff (Ok medium) old new = (n : ℕ) × (n ≤ medium.known.sectors) × (new ≡ scan_to medium.known old n)

-- a refusal that comes from the file or the drives is the one that is found
pub record RefusesScan (medium : Result Found ReadRefusal) (old new : List DriveView) (why : ReadRefusal) : Type 0 where
  pub first : IsOfMedium why → medium ≡ Err why
  pub left : BreaksOff medium old new

-- a report is the one of the file that may be given and of the drives, and so is a refusal that comes from them
abbrev pub IsScanOf : Option (Option (List ℕ)) → List DriveView → List DriveView → Result ScanReport ReadRefusal → Type 0
IsScanOf file old new (Ok report) = IsOkAnd (found file old) (IsScanned old new report)
IsScanOf file old new (Err why) = RefusesScan (found file old) old new why

-- each sector that is told to be unreadable raised the count of each drive, and drives are refused for what they gave
abbrev pub HasScanCause : Result ScanReport ReadRefusal → RackState → RackState → Type 0
HasScanCause (Ok report) old new = AllRoseBy (length report.unreadable) old new
HasScanCause (Err why) old new = RefusesBy {T = ScanReport} (Err why) old new

-- what becomes of the drives in a scan, whatever they tell: with a report they gave a number of sectors
pub record Scans (answer : Result ScanReport ReadRefusal) (old new : RackState) : Type 0 where
  pub number : IfOk answer (λ report. (n : ℕ) × Numbered n old new)
  pub lasts : RackLasts old new
  pub cause : HasScanCause answer old new
