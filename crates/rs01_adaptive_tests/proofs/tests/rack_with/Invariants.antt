use Rattle.std.proofs.Common.{◌≡◌}
use Rattle.rs01_fakes.specs.ScriptDrive.{view_of}
use Rattle.rs01_adaptive_tests.proofs.tests.rack_with.Given as goal

-- the drive keeps its number of sectors
abbrev pub invariant-loop-sector : goal.invariant-loop-sector
invariant-loop-sector g l = (view_of l.drive).number ≡ 10
