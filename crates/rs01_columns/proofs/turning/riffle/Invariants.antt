use Rattle.std.proofs.Common.{◌≡◌, ◌*◌, length}
use Rattle.rs01_columns.specs.Turning.{AreRiffled}
use Rattle.rs01_columns.proofs.turning.riffle.Given as goal

abbrev pub invariant-loop-i : goal.invariant-loop-i
invariant-loop-i l = AreRiffled l.from l.into 0 (16 * l.i)
