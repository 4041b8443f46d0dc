-- What holds of every attempt to make the file of an image, however its windows are worked, and of its parts.
use Rattle.std.specs.Prelude.{ℕ, ◌≡◌, ◌<◌, false, List, Result, Ok, Err, IfErr, OnOk}
use Rattle.rs01_outside.specs.DeskState.{DeskState, OnlyChanges, OnlyReads}
use Rattle.rs01_report.specs.declared.reports.CreateReport.{CreateReport}
use Rattle.rs01_create.specs.Answer.{Answers, Works}
use Rattle.rs01_create.specs.Looking.{LooksAt}
use Rattle.rs01_create.specs.Making.{AtWork, HasStopped, IsFinished, Leads, faults_of, moment}
use Rattle.rs01_create.specs.declared.course.Course.{Course}
use Rattle.rs01_create.specs.declared.found.Found.{Found}
use Rattle.rs01_create.specs.declared.plan.Plan.{Plan}
use Rattle.rs01_create.specs.declared.refusal.CreateRefusal.{CreateRefusal}
use Rattle.rs01_create.specs.declared.refusal.CreateRefusal.TheVariants.{TooManySectors}

-- the file, what is told of it, and the refusals
pub record IsCreate (image ecc : List ℕ) (r : ℕ) (old new : DeskState) (result : Result CreateReport CreateRefusal) : Type 0 where
  -- each fault has its count, and no other file changes
  pub works : Works ecc old new result
  -- where the desk tells its files, they and the answer are the defined ones
  pub answer : Answers image ecc r old new result
  -- a number that is refused is too high
  pub many : (n : ℕ) → result ≡ Err (TooManySectors n) → 16777215 < n

-- the image was looked at, and its file was begun, to which the parity of its layers is to be added
pub record IsStarted (image ecc : List ℕ) (r : ℕ) (old now : DeskState) (found : Found) (course : Course) : Type 0 where
  -- the desk as it was in between
  pub seen : DeskState
  pub reads : OnlyReads old seen false
  pub accepts : LooksAt old image (Ok found)
  pub parity : found.plan.shape.parity ≡ r
  pub changes : OnlyChanges ecc seen now false
  pub work : AtWork (moment now image ecc found.plan (faults_of now) course)
  pub none : course.next ≡ course.first

-- the parity of the next layers may be added: the work goes on, and no input was given whose parity doesn't stand in the
-- file
pub record CanAdd (image ecc : List ℕ) (plan : Plan) (state : DeskState) (course : Course) : Type 0 where
  pub at_work : AtWork (moment state image ecc plan (faults_of state) course)
  pub none : course.next ≡ course.first

-- the parity of the layers was added from a course on: of all of them, or until the work stopped
pub record AreAdded {T : Type 0} (image ecc : List ℕ) (plan : Plan) (old : DeskState) (before : Course) (new : DeskState) (after : Course) (added : Result T CreateRefusal) : Type 0 where
  pub leads : Leads (moment old image ecc plan (faults_of old) before) (moment new image ecc plan (faults_of old) after)
  pub finished : OnOk added (IsFinished (moment new image ecc plan (faults_of old) after))
  pub stops : IfErr added (HasStopped (moment new image ecc plan (faults_of old) after))

-- the file was begun, and then the layers were worked
pub record IsWorked {T : Type 0} (image ecc : List ℕ) (r : ℕ) (old now : DeskState) (found : Found) (course : Course) (added : Result T CreateRefusal) : Type 0 where
  -- how the desk and the course were in between
  pub start : DeskState
  pub begun : Course
  pub started : IsStarted image ecc r old start found begun
  pub work : AreAdded image ecc found.plan start begun now course added
