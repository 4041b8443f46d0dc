-- What a drive in memory holds, and what its calls leave.
use Rattle.std.specs.Prelude.{ℕ, ◌≡◌, ◌<◌, ◌≤◌, Bool, true, false, not, IsTrue, List, [], length, map, min, nat_lt, Some, Result, Ok, Err, vec_capacity, if◌then◌else◌}
use Rattle.rs01_lists.specs.Bytes.{zeros}
use Rattle.rs01_layers.specs.Sectors.{block, sectors_of}
use Rattle.rs01_outside.specs.DriveState.{Answers, DriveState}
use Rattle.rs01_outside.specs.DriveView.{Answer, DriveView, Gives, answer_at}
use Rattle.rs01_fakes.specs.Marks.{faults_after}
use Rattle.rs01_fakes.specs.Scripts.{add_coming, answer_of, coming_in, set_steady, steady_in}
use Rattle.rs01_fakes.specs.declared.scripts.Script.{Script}
use Rattle.rs01_fakes.specs.declared.script_drive.ScriptDrive.{ScriptDrive}

-- what it means
abbrev pub view_of : ScriptDrive → DriveView
view_of drive = record {
  number = drive.number;
  unsized = drive.sectors_fail;
  coming = coming_in drive.pending.items;
  steady = steady_in drive.kept.items;
  asked = drive.asked.items;
}

-- what it tells
abbrev pub drive_state : ScriptDrive → DriveState
drive_state drive = record { tells = drive.telling; view = view_of drive; faults = drive.faults }

-- whether it tells its view
abbrev pub tells_of : ScriptDrive → Bool
tells_of drive = drive.telling

-- how many asks it records before it has to grow
abbrev pub ask_room_of : ScriptDrive → ℕ
ask_room_of drive = vec_capacity drive.asked

-- a drive of so many sectors that was asked nothing and answers with zeros
abbrev pub blank : ℕ → DriveView
blank sectors = record { number = sectors; unsized = false; coming = λ sector. []; steady = λ sector. Some (zeros 2048); asked = [] }

-- the steady answers once the sectors below this count have the blocks of an image
abbrev pub lay_image : (ℕ → Answer) → List ℕ → ℕ → ℕ → Answer
lay_image steady image count sector = if nat_lt sector count then Some (block image sector 2048) else steady sector

-- the drive once an image is loaded, as far as both have sectors
abbrev pub with_image : DriveView → List ℕ → DriveView
with_image view image = record view { steady = lay_image view.steady image (min view.number (sectors_of (length image))) }

-- the drive once answers are added behind those that come for a sector
abbrev pub with_coming : DriveView → ℕ → List Script → DriveView
with_coming view sector scripts = record view { coming = add_coming view.coming sector (map answer_of scripts) }

-- the drive once the steady answer of a sector is set
abbrev pub with_steady : DriveView → ℕ → Script → DriveView
with_steady view sector script = record view { steady = set_steady view.steady sector (answer_of script) }

-- the drive once asking for its number fails
abbrev pub without_number : DriveView → DriveView
without_number view = record view { unsized = true }

-- a view that became this one, or stayed where that failed
abbrev pub Becomes : {E : Type 0} → DriveView → DriveView → DriveView → Result Unit E → Type 0
Becomes view old new (Ok u) = new ≡ view
Becomes view old new (Err e) = new ≡ old

-- only the view may differ
pub record SameButView (old new : ScriptDrive) : Type 0 where
  pub tells : tells_of new ≡ tells_of old
  pub faults : new.faults ≡ old.faults
  pub room : ask_room_of new ≡ ask_room_of old

-- the drive means this afterwards, or as before where that failed, and nothing else changed
pub record Sets {E : Type 0} (view : DriveView) (old new : ScriptDrive) (done : Result Unit E) : Type 0 where
  pub becomes : Becomes view (view_of old) (view_of new) done
  pub rest : SameButView old new

-- a call that leaves this view adds one to the count of faults where it failed, and the room never shrinks
pub record Answered (view : DriveView) (old new : ScriptDrive) (failed : Bool) : Type 0 where
  pub state : Answers (drive_state old) (drive_state new) view failed
  pub faults : new.faults ≡ faults_after old.faults failed
  pub room : ask_room_of old ≤ ask_room_of new

-- what a read of a sector gave is the drive's answer, where it tells
abbrev pub TellsGiven : {E : Type 0} → (old new : ScriptDrive) → (sector : ℕ) → (into : List ℕ) → Result Unit E → Type 0
TellsGiven old new sector into result = IsTrue (tells_of new) → Gives (answer_at (view_of old) sector) into result

-- a read stops the telling only where it fails and has to grow; the number of sectors, and whether it is told, stay in any case
pub record Records (old new : ScriptDrive) (failed : Bool) : Type 0 where
  pub recorded : IsTrue (not failed) → tells_of new ≡ tells_of old
  pub within : length (view_of old).asked < ask_room_of old → tells_of new ≡ tells_of old
  pub number : (view_of new).number ≡ (view_of old).number
  pub unsized : (view_of new).unsized ≡ (view_of old).unsized
