-- A drive that waits at a sector.
use Rattle.std.specs.Prelude.{ℕ}
use Rattle.rs01_outside.specs.DriveState.{DriveState}
use Rattle.rs01_fakes.specs.ScriptDrive.{drive_state}
use Rattle.rs01_fakes.specs.declared.meeting.MeetDrive.{MeetDrive}

-- it tells what the drive within tells
abbrev pub meeting_state : MeetDrive → DriveState
meeting_state drive = drive_state drive.inner

-- the sector at which it waits
abbrev pub waits_at : MeetDrive → ℕ
waits_at drive = drive.sector
