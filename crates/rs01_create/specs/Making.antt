-- How far the making of a file has come: what its steps need, and what they leave.
use Rattle.std.specs.Prelude.{ℕ, ◌≡◌, ◌≢◌, ◌+◌, ◌-◌, ◌*◌, ◌≤◌, ◌<◌, Bool, false, IsTrue, List, ◌++◌, All, length, map, not, Option, Some, Err}
use Rattle.std.specs.Global.{Vec}
use Rattle.std.specs.List.{flat_map, range_with_len}
use Rattle.md5.specs.Md5.{Holds}
use Rattle.rs01_encode.specs.Task.{encoded}
use Rattle.rs01_layers.specs.Blocks.{blocks_of}
use Rattle.rs01_layers.specs.Extents.{IsExtentOf}
use Rattle.rs01_layers.specs.Layer.{layer}
use Rattle.rs01_layers.specs.Layout.{layers_of}
use Rattle.rs01_layers.specs.declared.input.LayerInput.{LayerInput}
use Rattle.rs01_lists.specs.Bytes.{zeros}
use Rattle.rs01_outside.specs.Causes.{Rose}
use Rattle.rs01_outside.specs.DeskState.{DeskState, InFile}
use Rattle.rs01_outside.specs.Files.{SameElsewhere}
use Rattle.rs01_workers.specs.Work.{Worked, layers_in}
use Rattle.rs01_ecchead.specs.EccFile.{layer_parity, sum_bytes}
use Rattle.rs01_create.specs.Answer.{IsOfMaking, is_read_fault, is_write_fault}
use Rattle.rs01_create.specs.Windows.{AllLong, HoldsLayers}
use Rattle.rs01_create.specs.declared.course.Course.{Course}
use Rattle.rs01_create.specs.declared.course.Faults.{Faults}
use Rattle.rs01_create.specs.declared.plan.Plan.{Plan}
use Rattle.rs01_create.specs.declared.refusal.CreateRefusal.{CreateRefusal}

-- the body as far as the layers below n: the checksums of all sectors, and the parity of these layers
unfoldable pub body_to : List ℕ → ℕ → ℕ → List ℕ
body_to image r n = sum_bytes image ++ flat_map (layer_parity image r) (range_with_len 0 n)

-- a moment of the making of a file
pub record Moment : Type 0 where
  pub state : DeskState
  -- the names
  pub image : List ℕ
  pub ecc : List ℕ
  pub plan : Plan
  -- the desk's counts of faults as they were before
  pub kept : Faults
  pub course : Course

abbrev pub moment : DeskState → (image ecc : List ℕ) → Plan → Faults → Course → Moment
moment state image ecc plan kept course =
    record { state = state; image = image; ecc = ecc; plan = plan; kept = kept; course = course }

-- how many layers there are
abbrev pub layers : Plan → ℕ
layers plan = layers_of plan.shape.sectors plan.shape.parity

-- counts of faults since before: those of reading rose where reading failed, and those of writing where writing did
pub record CountsAs (kept : Faults) (state : DeskState) (reading writing : Bool) : Type 0 where
  pub reads_later : kept.reads ≤ state.read_faults
  pub writes_later : kept.writes ≤ state.write_faults
  pub read_rose : IsTrue reading → Rose kept.reads state.read_faults
  pub read_kept : IsTrue (not reading) → state.read_faults ≡ kept.reads
  pub write_rose : IsTrue writing → Rose kept.writes state.write_faults
  pub write_kept : IsTrue (not writing) → state.write_faults ≡ kept.writes

-- those that a desk tells of
abbrev pub faults_of : DeskState → Faults
faults_of state = record { reads = state.read_faults; writes = state.write_faults }

-- no call has failed since before
pub record IsQuiet (m : Moment) : Type 0 where
  pub reads : m.state.read_faults ≡ m.kept.reads
  pub writes : m.state.write_faults ≡ m.kept.writes

-- the file begins with zeros in place of a header, and has the body as far as the course's layers
pub record HasBody (m : Moment) (image : List ℕ) : Type 0 where
  pub extended : IsExtentOf image m.plan.extent
  pub there : m.state.files m.ecc ≡ Some (zeros 4096 ++ body_to image m.plan.shape.parity m.course.first)
  pub held : Holds m.course.hasher (body_to image m.plan.shape.parity m.course.first)

-- what was read ahead is of layers that there are, and where the desk tells it is theirs
pub record IsAhead (state : DeskState) (image : List ℕ) (plan : Plan) (next : ℕ) (window : List (Vec ℕ)) : Type 0 where
  pub within : next + length window ≤ layers plan
  pub long : AllLong (2048 * (255 - plan.shape.parity)) window
  pub blocks : InFile state image (λ file. IsExtentOf file plan.extent → HoldsLayers file plan.shape.parity (next + length window) window)

-- the work goes on
pub record AtWork (m : Moment) : Type 0 where
  pub quiet : IsQuiet m
  pub apart : m.image ≢ m.ecc
  pub ahead : IsAhead m.state m.image m.plan m.course.next m.course.window.items
  pub body : InFile m.state m.image (HasBody m)

-- the inputs of all layers were given
pub record IsDone (m : Moment) : Type 0 where
  pub at_work : AtWork m
  pub all : m.course.next ≡ layers m.plan

-- the parity of all layers stands in the file
pub record IsFinished (m : Moment) : Type 0 where
  pub at_work : AtWork m
  pub all : m.course.first ≡ layers m.plan

-- a file that begins with zeros in place of a header
abbrev pub IsHeadless : Option (List ℕ) → Type 0
IsHeadless file = (rest : List ℕ) × (file ≡ Some (zeros 4096 ++ rest))

-- it stopped so
pub record HasStopped (m : Moment) (why : CreateRefusal) : Type 0 where
  pub of_making : IsOfMaking {T = Unit {0}} (Err why)
  pub counts : CountsAs m.kept m.state (is_read_fault {T = Unit {0}} (Err why)) (is_write_fault {T = Unit {0}} (Err why))
  pub headless : IsTrue m.state.tells → IsHeadless (m.state.files m.ecc)

-- an input that was given: it is of one of the layers, no place is flagged, and its blocks are those of its layer
pub record Fits (m : Moment) (input : LayerInput) : Type 0 where
  pub below : input.layer < layers m.plan
  pub parity : input.parity_count ≡ m.plan.shape.parity
  pub flags : All (λ flag. flag ≡ false) input.erased
  pub blocks : InFile m.state m.image (λ file. IsExtentOf file m.plan.extent
      → blocks_of (255 - m.plan.shape.parity) input.data_ ≡ layer file m.plan.shape.parity input.layer)

-- what the steps leave: names, plan and kept counts, and every other file. No count of faults fell, and what was given and
-- what stands in the file went on
pub record Leads (old new : Moment) : Type 0 where
  pub image : new.image ≡ old.image
  pub ecc : new.ecc ≡ old.ecc
  pub plan : new.plan ≡ old.plan
  pub kept : new.kept ≡ old.kept
  pub tells : new.state.tells ≡ old.state.tells
  pub elsewhere : IsTrue old.state.tells → SameElsewhere old.ecc old.state.files new.state.files
  pub reads_later : old.state.read_faults ≤ new.state.read_faults
  pub writes_later : old.state.write_faults ≤ new.state.write_faults
  pub onward : old.course.first ≤ new.course.first
  pub given_onward : old.course.next ≤ new.course.next

-- a window was given and worked: the layers of the course that don't stand in the file, and the parity of each
pub record IsWorked (m : Moment) (worked : Worked) : Type 0 where
  pub all : range_with_len m.course.first (m.course.next - m.course.first) ≡ layers_in worked.inputs
  pub fit : All (Fits m) worked.inputs
  pub values : worked.outs ≡ map encoded worked.inputs

-- and its parity was put into the file
pub record Settles (old new : Moment) : Type 0 where
  pub at_work : AtWork new
  pub first : new.course.first ≡ old.course.next
  pub next : new.course.next ≡ old.course.next
