use Rattle.std.proofs.Common.{◌≡◌, false}
use Rattle.std.specs.Prelude.{IsTrue}
use Rattle.rs01_outside.specs.DeskState.{OnlyChanges}
use Rattle.rs01_repair.specs.Finding.{Sources, answer_to}
use Rattle.rs01_fix.specs.Steps.{IsBefore}
use Rattle.rs01_fix.proofs.places.put_layer.Given as goal

abbrev pub invariant-loop-place : goal.invariant-loop-place
invariant-loop-place g l = record {
  changes : OnlyChanges l.name (g.D.Desk.state l.initial.desk) (g.D.Desk.state l.desk) false;
  stands : (was : Sources l.found) → l.answer ≡ answer_to l.found was l.layer → IsTrue (g.D.Desk.state l.initial.desk).tells
      → IsBefore l.found was l.layer 0 ((g.D.Desk.state l.initial.desk).files l.name)
      → IsBefore l.found was l.layer l.place ((g.D.Desk.state l.desk).files l.name);
}
