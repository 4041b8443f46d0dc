use Rattle.rs01_ecchead.specs.Shown.{KeepsOn}
use Rattle.rs01_ecchead.proofs.walk.show_run.Given as goal

abbrev pub invariant-loop-sector : goal.invariant-loop-sector
invariant-loop-sector g l = record {
  fits : g.V.Visitor.fits l.visitor l.sector l.kept;
  keeps : KeepsOn (g.V.Visitor.keeps l.visitor) l.size l.extent l.first l.run l.first l.initial.kept l.sector l.kept;
}
