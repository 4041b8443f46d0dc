-- The work of `scan`.
use Rattle.std.specs.Prelude.{ℕ, ◌≡◌, ◌==◌, ◌&&◌, true, if◌then◌else◌, List, length, IsOkAnd, Option, Result, is_none}
use Rattle.std.specs.Option.{option_map}
use Rattle.rs01_linear.specs.Medium.{Found, found}
use Rattle.rs01_linear.specs.declared.refusal.ReadRefusal.{ReadRefusal}
use Rattle.rs01_report.specs.Texts.{scan_lines}
use Rattle.rs01_report.specs.declared.reports.ScanReport.{ScanReport}
use Rattle.rs01_verify.specs.Scan.{BreaksOff, scan_report, scan_to}
use Rattle.rs01_top.specs.Faults.{read_fault}
use Rattle.rs01_top.specs.Outside.{Outside}
use Rattle.rs01_top.specs.Work.{Work, fault_in}

-- 0 exactly where no sector is unreadable or altered
abbrev pub scanned_status : ScanReport → ℕ
scanned_status report = if (length report.unreadable == 0) && (length report.altered == 0) then 0 else 1

-- the medium in the drives, by the error correction file that may be named
abbrev pub medium_in : Option (List ℕ) → Outside → Result Found ReadRefusal
medium_in ecc outside = found (option_map outside.files ecc) outside.views

-- no file changes, each sector of the medium was asked for once, and the report is put
pub record HasScanned (old new : Outside) (put : List ℕ) (status : ℕ) (medium : Found) : Type 0 where
  pub files : new.files ≡ old.files
  pub views : new.views ≡ scan_to medium.known old.views medium.known.sectors
  pub lines : put ≡ scan_lines (scan_report medium old.views)
  pub number : status ≡ scanned_status (scan_report medium old.views)

-- no file has changed, and some first sectors of the medium were asked for, or none where there is none
pub record MayStandAfterScan (ecc : Option (List ℕ)) (old new : Outside) : Type 0 where
  pub files : new.files ≡ old.files
  pub views : BreaksOff (medium_in ecc old) old.views new.views

abbrev pub scan_work : Option (List ℕ) → Work
scan_work ecc = record {
  refusal = λ found. fault_in read_fault (medium_in ecc found);
  done = λ old new put status. IsOkAnd (medium_in ecc old) (HasScanned old new put status);
  may_stand = MayStandAfterScan ecc;
  keeps = λ old new. new.desk.files ≡ old.desk.files;
  only_reads = true;
  uses_drives = true;
  sized_by_drives = is_none ecc;
}
