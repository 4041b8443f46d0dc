-- The work of `demo`.
use Rattle.std.specs.Prelude.{ℕ, ◌≡◌, false, if◌then◌else◌, List, None, IsOkAnd}
use Rattle.rs01_fix.specs.Answer.{Repaired}
use Rattle.rs01_report.specs.Texts.{demo_lines}
use Rattle.rs01_demo.specs.Faults.{SameButTwo}
use Rattle.rs01_demo.specs.Plan.{ecc_name, image_name, is_whole, outcome, plan_of, report_of}
use Rattle.rs01_demo.specs.Steps.{IsLeft, IsUnderway}
use Rattle.rs01_demo.specs.declared.plan.Plan.{Plan}
use Rattle.rs01_top.specs.Outside.{Outside}
use Rattle.rs01_top.specs.Work.{Work}

-- 0 exactly where no sector is lost and no layer is strange
abbrev pub shown_status : Repaired → ℕ
shown_status repaired = if is_whole repaired.report then 0 else 1

-- the repaired image and its error correction file stand under their names, no other file changes, and the report is put
pub record HasDemonstrated (plan : Plan) (old new : Outside) (put : List ℕ) (status : ℕ) (repaired : Repaired) : Type 0 where
  pub left : IsLeft plan image_name ecc_name new.files repaired
  pub elsewhere : SameButTwo image_name ecc_name old.files new.files
  pub lines : put ≡ demo_lines (report_of plan repaired)
  pub number : status ≡ shown_status repaired

-- no other file has changed, and these two are on the way
pub record MayStandAfterDemo (plan : Plan) (old new : Outside) : Type 0 where
  pub elsewhere : SameButTwo image_name ecc_name old.files new.files
  pub left : IsUnderway plan image_name ecc_name old.files new.files

-- nothing that is found refuses it
abbrev pub work_of_plan : Plan → Work
work_of_plan plan = record {
  refusal = λ found. None;
  done = λ old new put status. IsOkAnd (outcome plan) (HasDemonstrated plan old new put status);
  may_stand = MayStandAfterDemo plan;
  keeps = λ old new. SameButTwo image_name ecc_name old.desk.files new.desk.files;
  only_reads = false;
  uses_drives = false;
  sized_by_drives = false;
}

abbrev pub demo_work : (number sectors parity lost : ℕ) → Work
demo_work number sectors parity lost = work_of_plan (plan_of number sectors parity lost)
