use Rattle.std.proofs.Common.{◌≤◌, length}
use Rattle.dvdisaster_rs01.proofs.main.Given as goal

abbrev pub invariant-loop-name : goal.invariant-loop-name
invariant-loop-name g l = length l.drives.items ≤ 16
