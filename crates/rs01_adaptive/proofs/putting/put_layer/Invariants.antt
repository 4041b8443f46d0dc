use Rattle.std.proofs.Common.{◌≤◌, length, false}
use Rattle.std.specs.Prelude.{IsTrue}
use Rattle.rs01_outside.specs.DeskState.{OnlyChanges}
use Rattle.rs01_outside.specs.Files.{bytes_of}
use Rattle.rs01_ecchead.specs.Erased.{image_len, known_of}
use Rattle.rs01_adaptive.specs.Putting.{HasPut, block_below}
use Rattle.rs01_adaptive.proofs.putting.put_layer.Given as goal

abbrev pub invariant-loop-place : goal.invariant-loop-place
invariant-loop-place g l = record {
  changes : OnlyChanges l.name (g.D.Desk.state l.initial.desk) (g.D.Desk.state l.desk) false;
  put : IsTrue (g.D.Desk.state l.initial.desk).tells → image_len (known_of l.ecc) ≤ length (bytes_of (g.D.Desk.state l.initial.desk).files l.name)
      → HasPut (known_of l.ecc) (block_below l.ecc l.layer l.answer l.place) (bytes_of (g.D.Desk.state l.initial.desk).files l.name) (bytes_of (g.D.Desk.state l.desk).files l.name);
}
