-- What holds of every demonstration, whoever works its layers, and of its parts.
use Rattle.std.specs.Prelude.{◌≡◌, ◌≢◌, false, IsTrue, List, ℕ, Some, Result, Ok}
use Rattle.rs01_outside.specs.DeskState.{DeskState, WorksOn}
use Rattle.rs01_create.specs.Creating.{IsCreate}
use Rattle.rs01_create.specs.declared.refusal.CreateRefusal.{CreateRefusal}
use Rattle.rs01_fix.specs.Fixing.{IsFix}
use Rattle.rs01_fix.specs.declared.refusal.FixRefusal.{FixRefusal}
use Rattle.rs01_report.specs.declared.reports.CreateReport.{CreateReport}
use Rattle.rs01_report.specs.declared.reports.FixReport.{FixReport}
use Rattle.rs01_demo.specs.Answer.{DemosOn}
use Rattle.rs01_demo.specs.Faults.{WorksTwo}
use Rattle.rs01_demo.specs.Plan.{IsInRange, original}
use Rattle.rs01_demo.specs.Steps.{SetsUpOn}
use Rattle.rs01_demo.specs.declared.demonstration.Demonstration.{Demonstration}
use Rattle.rs01_demo.specs.declared.plan.Plan.{Plan}
use Rattle.rs01_demo.specs.declared.refusal.DemoRefusal.{DemoRefusal}

-- the two files, and what is told of them
pub record IsDemo (plan : Plan) (image ecc : List ℕ) (old new : DeskState) (result : Result Demonstration DemoRefusal) : Type 0 where
  -- each fault has its count, and no other file changes
  pub works : WorksTwo image ecc old new result
  -- where the desk tells its files, they and the answer are the defined ones
  pub answer : DemosOn plan image ecc old new result

-- the image was made, and then its error correction file was to be
pub record IsProtected (plan : Plan) (image ecc : List ℕ) (old now : DeskState) (made : Result CreateReport CreateRefusal) : Type 0 where
  pub differ : image ≢ ecc
  pub range : IsInRange plan
  -- the desk as it was in between
  pub start : DeskState
  pub works : WorksOn image old start false false
  pub image_is : IsTrue old.tells → start.files image ≡ Some (original plan)
  pub creates : IsCreate image ecc plan.parity start now made

-- both were made, and the first sectors of the image were marked
pub record IsReadied (plan : Plan) (image ecc : List ℕ) (old new : DeskState) (result : Result (List ℕ) DemoRefusal) : Type 0 where
  pub works : WorksTwo image ecc old new result
  pub left : SetsUpOn plan image ecc old new result

-- and then the image was to be repaired
pub record IsRepaired (plan : Plan) (image ecc : List ℕ) (old now : DeskState) (sum : List ℕ) (fixed : Result FixReport FixRefusal) : Type 0 where
  pub differ : image ≢ ecc
  pub range : IsInRange plan
  -- the desk as it was in between
  pub start : DeskState
  pub readied : IsReadied plan image ecc old start (Ok sum)
  pub fixes : IsFix image ecc false start now fixed
