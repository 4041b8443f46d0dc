-- The states of what doesn't tell its contents, by its counts of faults.
use Rattle.std.specs.Prelude.{ℕ, false, [], None}
use Rattle.rs01_outside.specs.DeskState.{DeskState}
use Rattle.rs01_outside.specs.DriveState.{DriveState}
use Rattle.rs01_outside.specs.DriveView.{DriveView}
use Rattle.rs01_outside.specs.SinkState.{SinkState}

-- a desk that doesn't tell its files
abbrev pub untold_desk : ℕ → ℕ → DeskState
untold_desk read_faults write_faults =
    record { tells = false; files = λ name. None; read_faults = read_faults; write_faults = write_faults }

-- a view of no sector, for a drive that doesn't tell any
abbrev pub no_view : DriveView
no_view = record { number = 0; unsized = false; coming = λ sector. []; steady = λ sector. None; asked = [] }

-- a drive that doesn't tell its view
abbrev pub untold_drive : ℕ → DriveState
untold_drive faults = record { tells = false; view = no_view; faults = faults }

-- a sink that doesn't tell what it took
abbrev pub untold_sink : ℕ → SinkState
untold_sink faults = record { tells = false; taken = []; faults = faults }
