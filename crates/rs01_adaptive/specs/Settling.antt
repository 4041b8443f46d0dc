-- Taking the answers to the layers of a window.
use Rattle.std.specs.Prelude.{ℕ, ◌≡◌, ◌<◌, ◌≤◌, All, IfErr, IsTrue, List, length, map, slice_get, Option, Some, None, Result, Ok, Err, is_err}
use Rattle.rs01_layers.specs.Layout.{layers_of}
use Rattle.rs01_layers.specs.declared.input.LayerInput.{LayerInput}
use Rattle.rs01_layers.specs.declared.task.LayerOut.{LayerOut}
use Rattle.rs01_outside.specs.Causes.{Rose}
use Rattle.rs01_outside.specs.DeskState.{DeskState, OnlyChanges}
use Rattle.rs01_outside.specs.Files.{bytes_of}
use Rattle.rs01_rack.specs.Rack.{RackState}
use Rattle.rs01_ecchead.specs.Erased.{image_len, known_of}
use Rattle.rs01_ecchead.specs.Head.{fields_of}
use Rattle.rs01_ecchead.specs.declared.opened.Ecc.{Ecc}
use Rattle.rs01_erase.specs.Correcting.{correct}
use Rattle.rs01_repair.specs.Restored.{NamesSector}
use Rattle.rs01_workers.specs.Work.{Worked, layers_in}
use Rattle.rs01_reader.specs.Courses.{CourseSeen}
use Rattle.rs01_reader.specs.Settled.{Fits}
use Rattle.rs01_reader.specs.declared.setup.Setup.{Setup}
use Rattle.rs01_reader.specs.declared.stop.Stop.{Stop}
use Rattle.rs01_reader.specs.declared.stop.Stop.TheVariants.{WriteFault}
use Rattle.rs01_adaptive.specs.Noting.{HasLayers, Notes}
use Rattle.rs01_adaptive.specs.Putting.{HasPut, HasWhole, IsPutting, new_block}
use Rattle.rs01_adaptive.specs.Sights.{Along, IsSound, Sight, sight_of, window_layers}
use Rattle.rs01_adaptive.specs.declared.noting.Noted.{Noted}

-- an answer that may be taken: to a layer of the file, with whole blocks, and naming no padding
pub record CanSettle (ecc : Ecc) (l : ℕ) (answer : LayerOut) : Type 0 where
  pub layer : l < layers_of ecc.head.sectors ecc.head.parity
  pub whole : HasWhole answer
  pub names : NamesSector (fields_of ecc.head) l answer

-- what taking an answer leaves of the image file and of what is kept
abbrev pub SettlesFile : Ecc → ℕ → LayerOut → (old file : List ℕ) → Result Unit Stop → Type 0
SettlesFile ecc l answer old file (Ok u) = HasPut (known_of ecc) (new_block ecc l answer) old file
SettlesFile ecc l answer old file (Err stop) = IsPutting (known_of ecc) (new_block ecc l answer) old file

abbrev pub SettlesNoted : Ecc → ℕ → LayerOut → (old new : Noted) → Result Unit Stop → Type 0
SettlesNoted ecc l answer old new (Ok u) = Notes ecc l answer old new
SettlesNoted ecc l answer old new (Err stop) = (new ≡ old) × (stop ≡ WriteFault)

pub record SettlesOne (ecc : Ecc) (l : ℕ) (answer : LayerOut) (image : List ℕ) (noted noted' : Noted) (desk desk' : DeskState) (result : Result Unit Stop) : Type 0 where
  pub changes : OnlyChanges image desk desk' (is_err result)
  pub put : IsTrue desk.tells → image_len (known_of ecc) ≤ length (bytes_of desk.files image)
      → SettlesFile ecc l answer (bytes_of desk.files image) (bytes_of desk'.files image) result
  pub noted_is : SettlesNoted ecc l answer noted noted' result

-- all answers of a window may be taken
pub record CanTakeBy (ecc : Ecc) (noted : Noted) (worked : Worked) : Type 0 where
  pub layers : HasLayers (layers_of ecc.head.sectors ecc.head.parity) noted
  pub each : (i : ℕ) (input : LayerInput) (answer : LayerOut) → slice_get worked.inputs i ≡ Some input → slice_get worked.outs i ≡ Some answer → CanSettle ecc input.layer answer

abbrev pub CanTake : Option Ecc → Noted → Worked → Type 0
CanTake None noted worked = Unit {0}
CanTake (Some ecc) noted worked = CanTakeBy ecc noted worked

-- a window that was worked while no write failed: these are its inputs, with what correcting gives of each
pub record IsWorked (s : Sight) (worked : Worked) : Type 0 where
  pub sound : IsSound s
  pub none_rose : Rose s.moment.kept_writes s.moment.desk.write_faults → ⊥
  pub layers : window_layers s ≡ layers_in worked.inputs
  pub fit : All (Fits s.moment) worked.inputs
  pub values : worked.outs ≡ map correct worked.inputs

-- how many layers' answers are left to take
abbrev pub window_after : ℕ → Result Unit Stop → ℕ
window_after window (Ok u) = 0
window_after window (Err stop) = window

-- their answers were taken: whatever course and drives there are, the reading went on by that
pub record SettlesAll (setup : Setup) (noted noted' : Noted) (desk desk' : DeskState) (worked : Worked) (result : Result Unit Stop) : Type 0 where
  pub along :
      (course : CourseSeen) (rack : RackState) (window : ℕ) → IsWorked (sight_of setup course rack desk noted window) worked
      → Along (sight_of setup course rack desk noted window) (sight_of setup course rack desk' noted' (window_after window result))
  pub changes : OnlyChanges setup.image.now desk desk' (is_err result)
  pub halted : IfErr result (λ stop. stop ≡ WriteFault)
