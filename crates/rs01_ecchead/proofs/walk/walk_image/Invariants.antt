use Rattle.std.proofs.Common.{◌≡◌, ◌-◌, ◌≤◌, false, length}
use Rattle.rs01_outside.specs.DeskState.{InFile, OnlyReads}
use Rattle.rs01_ecchead.specs.Shown.{shown_in}
use Rattle.rs01_ecchead.proofs.walk.walk_image.Given as goal

abbrev pub invariant-loop-first : goal.invariant-loop-first
invariant-loop-first g l = record {
  reads : OnlyReads (g.D.Desk.state l.initial.desk) (g.D.Desk.state l.desk) false;
  high : l.first ≤ l.extent.sectors;
  room : length l.buffer.items ≡ 131072;
  fits : g.V.Visitor.fits l.visitor l.first l.kept;
  keeps : InFile (g.D.Desk.state l.initial.desk) l.name (λ file.
      g.V.Visitor.keeps l.visitor (shown_in file l.extent.sectors l.extent.last_bytes l.size) 0 l.initial.kept
      → g.V.Visitor.keeps l.visitor (shown_in file l.extent.sectors l.extent.last_bytes l.size) l.first l.kept);
}

abbrev pub decreases-loop-first : goal.decreases-loop-first
decreases-loop-first g l = l.extent.sectors - l.first
