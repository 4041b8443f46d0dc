-- What is repaired window by window: up to 64 neighbouring layers at a time.
use Rattle.std.specs.Prelude.{ℕ, ◌≡◌, ◌≢◌, ◌≤◌, ◌+◌, ◌-◌, true, All, IsTrue, List, [], ◌∷◌, ◌++◌, Some, length, map, not, slice_get}
use Rattle.std.specs.List.{range_with_len}
use Rattle.rs01_layers.specs.declared.input.LayerInput.{LayerInput}
use Rattle.rs01_layers.specs.declared.task.LayerOut.{LayerOut}
use Rattle.rs01_erase.specs.Correcting.{correct}
use Rattle.rs01_outside.specs.Causes.{Rose}
use Rattle.rs01_outside.specs.DeskState.{DeskState}
use Rattle.rs01_outside.specs.Files.{SameElsewhere}
use Rattle.rs01_workers.specs.Work.{Worked}
use Rattle.rs01_workers.specs.Work as work
use Rattle.rs01_repair.specs.Finding.{HasEcc, Sources, answer_to, is_gone_in, layers_in}
use Rattle.rs01_repair.specs.Given.{Fits, IsOfShape, IsReady}
use Rattle.rs01_repair.specs.Inputs.{flags_at}
use Rattle.rs01_repair.specs.Finding.{fields_in}
use Rattle.rs01_repair.specs.declared.found.Found.{Found}
use Rattle.rs01_fix.specs.Outcome.{IsOfRepair, reads_badly, writes_badly}
use Rattle.rs01_fix.specs.Steps.{AreKept, HasRoom, KeepsNothing, IsBefore, IsEitherWay, sources}
use Rattle.rs01_fix.specs.declared.course.Course.{Course}
use Rattle.rs01_fix.specs.declared.refusal.FixRefusal.{FixRefusal}

-- the layers that were given since the last window was settled
abbrev pub given : Course → List ℕ
given course = range_with_len course.start (course.batch.next - course.start)

-- the answers of a window whose first layer is `first`: each input is of the next layer, with what correcting gives of it
pub record IsAnswer (found : Found) (l : ℕ) (input : LayerInput) (answer : LayerOut) : Type 0 where
  pub layer : input.layer ≡ l
  pub shape : IsOfShape found input
  pub value : answer ≡ correct input

abbrev pub AreAnswers : Found → ℕ → Worked → Type 0
AreAnswers found first worked = (i : ℕ) (input : LayerInput) (answer : LayerOut) → slice_get worked.inputs i ≡ Some input → slice_get worked.outs i ≡ Some answer
    → IsAnswer found (first + i) input answer

-- they are those of the files as they were found
pub record IsAnswerOf (found : Found) (was : Sources found) (l : ℕ) (input : LayerInput) (answer : LayerOut) : Type 0 where
  pub erased : input.erased ≡ flags_at (fields_in found) (is_gone_in found was) l
  pub answer_is : answer ≡ answer_to found was l

abbrev pub AreAnswersOf : (found : Found) → Sources found → ℕ → Worked → Type 0
AreAnswersOf found was first worked = (i : ℕ) (input : LayerInput) (answer : LayerOut) → slice_get worked.inputs i ≡ Some input → slice_get worked.outs i ≡ Some answer
    → IsAnswerOf found was (first + i) input answer

-- no call failed since the start
pub record NoFault (state : DeskState) (course : Course) : Type 0 where
  pub reads : state.read_faults ≡ course.reads
  pub writes : state.write_faults ≡ course.writes

-- a repair whose windows so far were all settled, and that may be asked for layers
pub record IsGoing (found : Found) (image ecc : List ℕ) (state : DeskState) (course : Course) : Type 0 where
  pub differ : image ≢ ecc
  pub whole : course.whole ≡ true
  pub none : NoFault state course
  pub order : course.start ≤ course.batch.next
  pub room : HasRoom found course.start course.repairs
  pub ready : IsReady found image ecc state course.batch

-- and of which no layer was given since
pub record CanWork (found : Found) (image ecc : List ℕ) (state : DeskState) (course : Course) : Type 0 where
  pub going : IsGoing found image ecc state course
  pub none : given course ≡ []

-- all layers were given, and all windows were settled
pub record IsDone (found : Found) (image ecc : List ℕ) (state : DeskState) (course : Course) : Type 0 where
  pub going : IsGoing found image ecc state course
  pub all : course.batch.next ≡ layers_in found

pub record IsFinished (found : Found) (state : DeskState) (course : Course) : Type 0 where
  pub whole : course.whole ≡ true
  pub none : NoFault state course
  pub all : course.start ≡ layers_in found
  pub room : HasRoom found course.start course.repairs

-- it stopped so
pub record HasStopped (state : DeskState) (course : Course) (why : FixRefusal) : Type 0 where
  pub of_repair : IsOfRepair why
  pub read_rose : IsTrue (reads_badly why) → Rose course.reads state.read_faults
  pub read_kept : IsTrue (not (reads_badly why)) → state.read_faults ≡ course.reads
  pub write_rose : IsTrue (writes_badly why) → Rose course.writes state.write_faults
  pub write_kept : IsTrue (not (writes_badly why)) → state.write_faults ≡ course.writes

-- how the image file stands, and what is kept, where all windows before `start` were settled
pub record IsUpTo (found : Found) (was : Sources found) (image : List ℕ) (state : DeskState) (course : Course) : Type 0 where
  pub underway : IsEitherWay found was (state.files image)
  pub stands : course.whole ≡ true → IsBefore found was course.start 0 (state.files image)
  pub kept : course.whole ≡ true → AreKept found was course.start course.repairs

-- a repair went on: no other file changed, no count fell, what was given went on, and the image file still stands as it
-- should
pub record GoesOn (found : Found) (image ecc : List ℕ) (old : DeskState) (before : Course) (new : DeskState) (after : Course) : Type 0 where
  pub tells : new.tells ≡ old.tells
  pub elsewhere : IsTrue old.tells → SameElsewhere image old.files new.files
  pub reads_later : old.read_faults ≤ new.read_faults
  pub writes_later : old.write_faults ≤ new.write_faults
  pub reads_kept : after.reads ≡ before.reads
  pub writes_kept : after.writes ≡ before.writes
  pub start_later : before.start ≤ after.start
  pub given_later : before.batch.next ≤ after.batch.next
  pub ecc_stays : (e : List ℕ) → HasEcc found e old ecc → HasEcc found e new ecc
  pub story : (e y : List ℕ) (size : length y ≡ found.size) → HasEcc found e old ecc
      → IsUpTo found (sources found e y size) image old before → IsUpTo found (sources found e y size) image new after

-- the answers of a window that are to be settled
pub record IsWindow (found : Found) (image ecc : List ℕ) (state : DeskState) (course : Course) (worked : Worked) : Type 0 where
  pub all : given course ≡ work.layers_in worked.inputs
  pub fit : All (Fits found image ecc state) worked.inputs
  pub values : worked.outs ≡ map correct worked.inputs
  pub going : IsGoing found image ecc state course

-- nothing was given yet, at a desk with these counts of faults
pub record Begins (found : Found) (reads writes : ℕ) (course : Course) : Type 0 where
  pub reads_are : course.reads ≡ reads
  pub writes_are : course.writes ≡ writes
  pub start : course.start ≡ 0
  pub whole : course.whole ≡ true
  pub next : course.batch.next ≡ 0
  pub first : course.batch.first ≡ 0
  pub parts : length course.batch.parts.items ≡ 0
  pub parity : course.batch.parity.items ≡ []
  pub nothing : KeepsNothing found course.repairs

-- one more layer was given
pub record GivesLayer (found : Found) (image ecc : List ℕ) (state : DeskState) (before after : Course) (input : LayerInput) : Type 0 where
  pub gave : given after ≡ given before ++ input.layer ∷ []
  pub fits : Fits found image ecc state input
  pub going : IsGoing found image ecc state after
