-- What a run of `fix` gives back where the error correction file is intact, and no sector that was altered has its recorded
-- checksum. c is what the error correction file says, and the image's file is the list y when the run begins.
use Rattle.std.specs.Prelude.{ℕ, ◌≡◌, Bool, List, Some, IsSomeAnd, IsTrue}
use Rattle.rs01_ecchead.specs.Opened.{Opened}
use Rattle.rs01_report.specs.Texts.{fix_lines}
use Rattle.rs01_report.specs.declared.reports.FixReport.{FixReport}
use Rattle.rs01_repair.specs.Intact.{HasTheOthers, Protects}
use Rattle.rs01_fix.specs.ComesBack.{ComesBack}
use Rattle.rs01_top.specs.Fix.{fix_work, fixed_status}
use Rattle.rs01_top.specs.Outside.{World}
use Rattle.rs01_top.specs.Run.{IsRun, IsSettled, Tells}

-- the report of a repair was put, and the file under this name is the original again but for what the report names
pub record BringsBack (original : List ℕ) (c : Opened) (y image : List ℕ) (old new : World) (status : ℕ) : Type 0 where
  pub report : FixReport
  pub lines : Tells old.out new.out (fix_lines report image)
  pub number : status ≡ fixed_status report
  pub back : IsSomeAnd (new.desk.files image) (λ now. ComesBack original c y (record { file = now; report = report }))

-- that is so of each run of `fix` without a fault, for every image, redundancy and damage
abbrev pub RunsBringBack : Type 0
RunsBringBack = (image ecc : List ℕ) (cut : Bool) (old new : World) (status : ℕ) → IsRun (fix_work image ecc cut) old new status
    → IsTrue old.desk.tells → IsSettled status
    → (original file y : List ℕ) (r : ℕ) (c : Opened) → old.desk.files ecc ≡ Some file → old.desk.files image ≡ Some y
    → Protects file original r c → HasTheOthers original c y → BringsBack original c y image old new status
