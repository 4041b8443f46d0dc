-- The work of `fix`.
use Rattle.std.specs.Prelude.{ℕ, ◌≡◌, ◌==◌, ◌&&◌, Bool, false, if◌then◌else◌, List, length, IsOkAnd, Result}
use Rattle.rs01_outside.specs.Files.{Becomes, SameElsewhere}
use Rattle.rs01_report.specs.Texts.{fix_lines}
use Rattle.rs01_report.specs.declared.reports.FixReport.{FixReport}
use Rattle.rs01_fix.specs.Answer.{MayStand, Repaired, fix_answer}
use Rattle.rs01_fix.specs.declared.refusal.FixRefusal.{FixRefusal}
use Rattle.rs01_top.specs.Faults.{fix_fault}
use Rattle.rs01_top.specs.Outside.{Outside}
use Rattle.rs01_top.specs.Work.{Work, fault_in}

-- 0 exactly where no sector is lost and no layer is strange
abbrev pub fixed_status : FixReport → ℕ
fixed_status report = if (length report.lost == 0) && (length report.strange == 0) then 0 else 1

-- the image is repaired, no other file changes, and the report is put
pub record IsFixed (image : List ℕ) (old new : Outside) (put : List ℕ) (status : ℕ) (repaired : Repaired) : Type 0 where
  pub files : Becomes image repaired.file old.files new.files
  pub lines : put ≡ fix_lines repaired.report image
  pub number : status ≡ fixed_status repaired.report

-- the answer to the files that are found
abbrev pub answer_to : (image ecc : List ℕ) → Bool → Outside → Result Repaired FixRefusal
answer_to image ecc cut found = fix_answer (found.files ecc) (found.files image) cut

-- no other file has changed, and the image is on the way from the old one to the repaired one
pub record MayStandAfterFix (image ecc : List ℕ) (cut : Bool) (old new : Outside) : Type 0 where
  pub elsewhere : SameElsewhere image old.files new.files
  pub left : MayStand (answer_to image ecc cut old) (old.files image) (new.files image)

abbrev pub fix_work : (image ecc : List ℕ) → Bool → Work
fix_work image ecc cut = record {
  refusal = λ found. fault_in fix_fault (answer_to image ecc cut found);
  done = λ old new put status. IsOkAnd (answer_to image ecc cut old) (IsFixed image old new put status);
  may_stand = MayStandAfterFix image ecc cut;
  keeps = λ old new. SameElsewhere image old.desk.files new.desk.files;
  only_reads = false;
  uses_drives = false;
  sized_by_drives = false;
}
