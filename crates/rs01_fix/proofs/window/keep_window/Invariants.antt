use Rattle.std.proofs.Common.{◌+◌}
use Rattle.rs01_repair.specs.Finding.{Sources}
use Rattle.rs01_fix.specs.Steps.{AreKept, HasRoom}
use Rattle.rs01_fix.specs.Windows.{AreAnswersOf}
use Rattle.rs01_fix.proofs.window.keep_window.Given as goal

abbrev pub invariant-loop-i : goal.invariant-loop-i
invariant-loop-i l = record {
  room : HasRoom l.found (l.first + l.i) l.repairs;
  kept : (was : Sources l.found) → AreAnswersOf l.found was l.first l.results → AreKept l.found was l.first l.initial.repairs
      → AreKept l.found was (l.first + l.i) l.repairs;
}
