use Rattle.rs01_demo.proofs.StepLemmas.{IsMarking}
use Rattle.rs01_demo.proofs.marking.mark_sectors.Given as goal

abbrev pub invariant-loop-sector : goal.invariant-loop-sector
invariant-loop-sector g l = IsMarking l.lost l.name l.sector (g.D.Desk.state l.initial.desk) (g.D.Desk.state l.desk)
