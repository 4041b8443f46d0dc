use Rattle.std.proofs.Common.{◌-◌}
use Rattle.rs01_linear.proofs.MarkLemmas.{IsMarking}
use Rattle.rs01_linear.proofs.marking.put_markers.Given as goal

abbrev pub invariant-loop-first : goal.invariant-loop-first
invariant-loop-first g l =
    IsMarking l.extent l.fates l.name l.first (g.D.Desk.state l.initial.desk) (g.D.Desk.state l.desk)

abbrev pub decreases-loop-first : goal.decreases-loop-first
decreases-loop-first g l = l.extent.sectors - l.first
