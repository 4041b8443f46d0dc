use Rattle.std.proofs.Common.{◌+◌, false}
use Rattle.std.specs.Prelude.{IsTrue}
use Rattle.rs01_outside.specs.DeskState.{OnlyChanges}
use Rattle.rs01_repair.specs.Finding.{Sources}
use Rattle.rs01_fix.specs.Steps.{IsBefore}
use Rattle.rs01_fix.specs.Windows.{AreAnswersOf}
use Rattle.rs01_fix.proofs.window.put_window.Given as goal

abbrev pub invariant-loop-i : goal.invariant-loop-i
invariant-loop-i g l = record {
  changes : OnlyChanges l.name (g.D.Desk.state l.initial.desk) (g.D.Desk.state l.desk) false;
  stands : (was : Sources l.found) → AreAnswersOf l.found was l.first l.results → IsTrue (g.D.Desk.state l.initial.desk).tells
      → IsBefore l.found was l.first 0 ((g.D.Desk.state l.initial.desk).files l.name)
      → IsBefore l.found was (l.first + l.i) 0 ((g.D.Desk.state l.desk).files l.name);
}
