-- The work of `verify`.
use Rattle.std.specs.Prelude.{ℕ, ◌≡◌, ◌==◌, ◌&&◌, Bool, true, false, if◌then◌else◌, List, length, IsOkAnd, Result}
use Rattle.rs01_report.specs.Texts.{verify_lines}
use Rattle.rs01_report.specs.declared.reports.Mark.{Mark}
use Rattle.rs01_report.specs.declared.reports.Mark.TheVariants.{Absent, Differs, Matches}
use Rattle.rs01_report.specs.declared.reports.VerifyReport.{VerifyReport}
use Rattle.rs01_verify.specs.Answer.{verify_answer}
use Rattle.rs01_verify.specs.declared.refusal.VerifyRefusal.{VerifyRefusal}
use Rattle.rs01_top.specs.Faults.{verify_fault}
use Rattle.rs01_top.specs.Outside.{Outside}
use Rattle.rs01_top.specs.Work.{Work, fault_in}

abbrev pub is_match : Mark → Bool
is_match Matches = true
is_match Differs = false
is_match Absent = false

-- 0 exactly where no sector is missing or altered and the image has the recorded digest
abbrev pub checked_status : VerifyReport → ℕ
checked_status report =
    if (length report.missing == 0) && ((length report.altered == 0) && is_match report.image) then 0 else 1

-- no file changes, and the report of the check is put
pub record IsChecked (image : List ℕ) (old new : Outside) (put : List ℕ) (status : ℕ) (report : VerifyReport) : Type 0 where
  pub files : new.files ≡ old.files
  pub lines : put ≡ verify_lines report image
  pub number : status ≡ checked_status report

-- the answer to the files that are found
abbrev pub answer_to : (image ecc : List ℕ) → Outside → Result VerifyReport VerifyRefusal
answer_to image ecc found = verify_answer (found.files ecc) (found.files image)

abbrev pub verify_work : (image ecc : List ℕ) → Work
verify_work image ecc = record {
  refusal = λ found. fault_in verify_fault (answer_to image ecc found);
  done = λ old new put status. IsOkAnd (answer_to image ecc old) (IsChecked image old new put status);
  may_stand = λ old new. new.files ≡ old.files;
  keeps = λ old new. new.desk.files ≡ old.desk.files;
  only_reads = true;
  uses_drives = false;
  sized_by_drives = false;
}
