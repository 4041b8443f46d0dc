use Rattle.rs01_rack.specs.State.{rack_state}
use Rattle.rs01_turns.proofs.Unreads.{unreads}
use Rattle.rs01_reader.proofs.OnLemmas.{ReadingOn}
use Rattle.rs01_reader.proofs.asking.read_on.Given as goal

abbrev pub invariant-loop-sector : goal.invariant-loop-sector
invariant-loop-sector g l =
    ReadingOn l.setup l.initial.course l.course (g.D.Desk.state l.initial.desk) (g.D.Desk.state l.desk)
    (rack_state (λ b. (goal.Drive-dyn g (b.vtable, b.value)).state b.value) l.initial.rack)
    (rack_state (λ b. (goal.Drive-dyn g (b.vtable, b.value)).state b.value) l.rack)

abbrev pub decreases-loop-sector : goal.decreases-loop-sector
decreases-loop-sector g l = unreads l.course.states
