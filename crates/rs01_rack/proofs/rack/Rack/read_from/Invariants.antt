use Rattle.rs01_rack.specs.State.{rack_state}
use Rattle.rs01_rack.proofs.Walk.{UpTo}
use Rattle.rs01_rack.proofs.rack.Rack.read_from.Given as goal

abbrev pub invariant-loop-place : goal.invariant-loop-place
invariant-loop-place g l =
    UpTo l.sector l.tries l.first l.place
    (rack_state (λ b. (goal.Drive-dyn g (b.vtable, b.value)).state b.value) l.initial.self)
    (rack_state (λ b. (goal.Drive-dyn g (b.vtable, b.value)).state b.value) l.self)
