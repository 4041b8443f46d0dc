-- The work of `read` by turns.
use Rattle.std.specs.Prelude.{ℕ, ◌≡◌, ◌⊎◌, IfErr, List, Option, Some, Result}
use Rattle.std.specs.Borrow.{Bor}
use Rattle.std.specs.Option.{option_map}
use Rattle.rs01_outside.specs.DeskState.{DeskState}
use Rattle.rs01_outside.specs.Files.{bytes_of}
use Rattle.rs01_outside.specs.SinkState.{SinkState}
use Rattle.rs01_rack.specs.Rack.{RackState}
use Rattle.rs01_report.specs.declared.reports.ReadReport.{ReadReport}
use Rattle.rs01_linear.specs.Lasting.{RackLasts}
use Rattle.rs01_linear.specs.Medium.{AnswersNamed, Found}
use Rattle.rs01_linear.specs.Outcome.{RefusesBy}
use Rattle.rs01_linear.specs.Refusal.{LeavesAll, TellsFaults, WorksBy}
use Rattle.rs01_linear.specs.Spared.{StaysGood}
use Rattle.rs01_linear.specs.declared.refusal.ReadRefusal.{ReadRefusal}
use Rattle.rs01_adaptive.specs.Outcome.{IsLeftAt, OfWhole, TellsReading}
use Rattle.rs01_adaptive.specs.Whole.{Whole, end_in, image_left, report_of}
use Rattle.rs01_top.specs.Outside.{Outside, world}
use Rattle.rs01_top.specs.Read.{HasRead, Reading, asks_between, work_of_reading}
use Rattle.rs01_top.specs.Run.{IsRun}
use Rattle.rs01_top.specs.Work.{Work}

-- what holds of the whole reading of a medium that was found
abbrev pub OfReading : (image : List ℕ) → (tries : ℕ) → Found → Outside → (Whole → Type 0) → Type 0
OfReading image tries medium old Fact = OfWhole medium tries (bytes_of old.files image) old.views Fact

-- it is done, or was left where the drives were asked for some first sectors, and the image file is as before or on the way
abbrev pub IsTurnedSoFar : (image : List ℕ) → (old new : Outside) → Whole → Type 0
IsTurnedSoFar image old new w =
    ((new.files image ≡ Some (image_left w)) × (new.views ≡ (end_in w).views)) ⊎ IsLeftAt new.views (old.files image) (new.files image) w

abbrev pub turned_reading : (image : List ℕ) → (ecc : Option (List ℕ)) → (tries : ℕ) → Reading
turned_reading image ecc tries = record {
  image = image;
  ecc = ecc;
  done = λ medium old new put status.
      OfReading image tries medium old (λ w. HasRead image (image_left w) (end_in w).views (report_of w (asks_between old new)) old new put status);
  left = λ medium old new. OfReading image tries medium old (IsTurnedSoFar image old new);
}

abbrev pub adaptive_work : (image : List ℕ) → (ecc : Option (List ℕ)) → (tries : ℕ) → Work
adaptive_work image ecc tries = work_of_reading (turned_reading image ecc tries)

-- a medium was read by turns into an image file, and this was answered
pub record IsTurned (image : List ℕ) (ecc : Option (Bor (List ℕ))) (tries : ℕ) (desk desk' : DeskState) (result : Result ReadReport ReadRefusal) (rack rack' : RackState) : Type 0 where
  pub works : WorksBy image desk desk' result
  pub lasts : RackLasts rack rack'
  pub causes : IfErr result TellsFaults
  pub answers : AnswersNamed desk ecc result
  pub untouched : IfErr result (LeavesAll desk desk')
  pub refused : RefusesBy result rack rack'
  pub told : TellsReading desk desk' ecc tries image result rack rack'
  pub stays : StaysGood desk desk' ecc image rack rack'

-- however a medium was read so, what is put and the status make a run of it
abbrev pub TellsTurned : (image : List ℕ) → Result ReadReport ReadRefusal → (out out' : SinkState) → (status : ℕ) → Type 0
TellsTurned image result out out' status =
    (ecc : Option (Bor (List ℕ))) (tries : ℕ) (desk desk' : DeskState) (rack rack' : RackState) → IsTurned image ecc tries desk desk' result rack rack'
    → IsRun (adaptive_work image (option_map (λ (name : Bor (List ℕ)). name.now) ecc) tries) (world desk rack out) (world desk' rack' out') status
