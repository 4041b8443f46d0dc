-- What holds of every repair of the image under one name by the error correction file under another, however its windows
-- are worked, and of its parts.
use Rattle.std.specs.Prelude.{ℕ, Bool, false, List, Result, Ok, IfErr, OnOk}
use Rattle.rs01_outside.specs.DeskState.{DeskState, OnlyReads}
use Rattle.rs01_report.specs.declared.reports.FixReport.{FixReport}
use Rattle.rs01_repair.specs.declared.found.Found.{Found}
use Rattle.rs01_fix.specs.ComesBack.{BringsBack}
use Rattle.rs01_fix.specs.Outcome.{FixesOn, TellsTwo, Works, WritesLast}
use Rattle.rs01_fix.specs.Steps.{IsFoundOn}
use Rattle.rs01_fix.specs.Windows.{Begins, GoesOn, HasStopped, IsFinished}
use Rattle.rs01_fix.specs.declared.course.Course.{Course}
use Rattle.rs01_fix.specs.declared.refusal.FixRefusal.{FixRefusal}

-- the image file, what is told of it, and the refusals
pub record IsFix (image ecc : List ℕ) (cut : Bool) (old new : DeskState) (result : Result FixReport FixRefusal) : Type 0 where
  -- each fault has its count, and no other file changes
  pub works : Works image old new result
  -- where the desk tells its files, they and the answer are the defined ones
  pub answer : FixesOn image ecc cut old new result
  -- where the error correction file is intact, the image comes back
  pub comes_back : BringsBack image ecc old new result
  -- a write fails only where the files don't forbid the repair
  pub write_fault_last : WritesLast image ecc cut old result
  -- a refusal that tells two values tells different ones
  pub differ : IfErr result TellsTwo

-- the two files were found, and no layer was given yet
pub record IsStarted (image ecc : List ℕ) (old now : DeskState) (found : Found) (course : Course) : Type 0 where
  pub reads : OnlyReads old now false
  pub found_is : IsFoundOn ecc image old (Ok found)
  pub begins : Begins found now.read_faults now.write_faults course

-- the windows were worked from a course on: all of them, or until the work stopped
pub record AreWorked {T : Type 0} (found : Found) (image ecc : List ℕ) (old : DeskState) (before : Course) (new : DeskState) (after : Course) (worked : Result T FixRefusal) : Type 0 where
  pub goes : GoesOn found image ecc old before new after
  pub finished : OnOk worked (IsFinished found new after)
  pub stopped : IfErr worked (HasStopped new after)

-- the two files were found, and then the windows were worked
pub record IsWorked {T : Type 0} (image ecc : List ℕ) (old now : DeskState) (found : Found) (course : Course) (worked : Result T FixRefusal) : Type 0 where
  -- how the desk and the course were in between
  pub start : DeskState
  pub begun : Course
  pub started : IsStarted image ecc old start found begun
  pub work : AreWorked found image ecc start begun now course worked
