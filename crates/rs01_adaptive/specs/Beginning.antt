-- How a reading by turns begins, and what it came to once its windows were read.
use Rattle.std.specs.Prelude.{ℕ, ◌≡◌, List, Option, Result}
use Rattle.rs01_layers.specs.declared.shape.Shape.{Shape}
use Rattle.rs01_outside.specs.DeskState.{DeskState}
use Rattle.rs01_rack.specs.Rack.{RackState}
use Rattle.rs01_report.specs.declared.reports.ReadReport.{ReadReport}
use Rattle.rs01_states.specs.Sparing.{layer_count}
use Rattle.rs01_linear.specs.Report.{IsFresh}
use Rattle.rs01_linear.specs.declared.fate.Fate.{Fate}
use Rattle.rs01_linear.specs.declared.medium.Medium.{Medium}
use Rattle.rs01_linear.specs.declared.prepared.Prepared.{Prepared}
use Rattle.rs01_linear.specs.declared.refusal.ReadRefusal.{ReadRefusal}
use Rattle.rs01_workers.specs.declared.results.WindowStop.{WindowStop}
use Rattle.rs01_reader.specs.Courses.{CourseSeen, start_of}
use Rattle.rs01_reader.specs.Settled.{IsShapeOf}
use Rattle.rs01_reader.specs.declared.setup.Setup.{Setup}
use Rattle.rs01_reader.specs.declared.stop.Stop.{Stop}
use Rattle.rs01_adaptive.specs.Noting.{IsBlank}
use Rattle.rs01_adaptive.specs.Preparing.{CanBegin, ReadsReady}
use Rattle.rs01_adaptive.specs.Windows.{ReadsWindows}
use Rattle.rs01_adaptive.specs.declared.noting.Noted.{Noted}

-- nothing was read yet, and no layer corrected
pub record IsBegun (medium : Medium) (fates : List Fate) (desk : DeskState) (course : CourseSeen) (noted : Noted) : Type 0 where
  pub shape : Option Shape
  pub shape_is : IsShapeOf medium.ecc shape
  pub blank : IsBlank (layer_count shape) noted
  pub course_is : course ≡ start_of shape fates desk.read_faults desk.write_faults

-- a reading into an image file that is ready, by a rack that had counted so many asks, was begun, and then its windows
-- were read
pub record IsWorked (setup : Setup) (prepared : Prepared) (size asks : ℕ) (desk desk' : DeskState) (course : CourseSeen) (noted : Noted) (ended : Result Unit (WindowStop Stop)) (rack rack' : RackState) : Type 0 where
  pub can : CanBegin setup desk
  pub fresh : IsFresh setup.medium.now.extent.sectors prepared.fates.items
  pub size_is : size ≡ prepared.size
  pub asks_are : asks ≡ rack.asks
  -- what it began with
  pub begun_course : CourseSeen
  pub begun_noted : Noted
  pub begun : IsBegun setup.medium.now prepared.fates.items desk begun_course begun_noted
  pub reads : ReadsWindows setup begun_course course begun_noted noted desk desk' ended rack rack'

-- what is answered once the windows were read, whatever the reading was begun with
abbrev pub Finishes : Setup → (size asks : ℕ) → CourseSeen → Noted → Result Unit (WindowStop Stop) → Result ReadReport ReadRefusal → RackState → Type 0
Finishes setup size asks course noted ended result now =
    (prepared : Prepared) (before after : DeskState) (old : RackState) → IsWorked setup prepared size asks before after course noted ended old now
    → ReadsReady setup prepared before after result old now
