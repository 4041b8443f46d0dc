use Rattle.rs01_linear.specs.Medium.{known_of}
use Rattle.rs01_rack.specs.State.{rack_state}
use Rattle.rs01_linear.proofs.RunLemmas.{SoFar}
use Rattle.rs01_linear.proofs.reading.read_sectors.Given as goal

abbrev pub invariant-loop-sector : goal.invariant-loop-sector
invariant-loop-sector g l =
    SoFar (known_of l.medium) (record { jump = l.jump; tries = l.tries }) l.name l.sector (g.D.Desk.state l.initial.desk) (g.D.Desk.state l.desk)
    (rack_state (λ b. (goal.Drive-dyn g (b.vtable, b.value)).state b.value) l.initial.rack)
    (rack_state (λ b. (goal.Drive-dyn g (b.vtable, b.value)).state b.value) l.rack) l.initial.reading l.reading
