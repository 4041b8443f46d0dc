use Rattle.std.proofs.Common.{◌-◌, ℕ, false}
use Rattle.rs01_layers.specs.Layout.{layers_of}
use Rattle.rs01_outside.specs.DeskState.{OnlyChanges}
use Rattle.rs01_rack.specs.Rack.{RackState}
use Rattle.rs01_reader.specs.Courses.{CourseSeen}
use Rattle.rs01_adaptive.specs.Noting.{HasLayers}
use Rattle.rs01_adaptive.specs.Settling.{IsWorked}
use Rattle.rs01_adaptive.specs.Sights.{Along, sight_of}
use Rattle.rs01_adaptive.proofs.settling.settle_results.Given as goal

abbrev pub invariant-loop-i : goal.invariant-loop-i
invariant-loop-i g l = record {
  along : (course : CourseSeen) (rack : RackState) (window : ℕ) → IsWorked (sight_of l.setup course rack (g.D.Desk.state l.initial.desk) l.initial.noted window) l.results
      → Along (sight_of l.setup course rack (g.D.Desk.state l.initial.desk) l.initial.noted window) (sight_of l.setup course rack (g.D.Desk.state l.desk) l.noted (window - l.i));
  changes : OnlyChanges l.setup.image.now (g.D.Desk.state l.initial.desk) (g.D.Desk.state l.desk) false;
  layers : HasLayers (layers_of l.ecc.head.sectors l.ecc.head.parity) l.noted;
}
