use Rattle.rs01_rack.specs.State.{rack_state}
use Rattle.rs01_rack.proofs.Numbers.{CountedUpTo}
use Rattle.rs01_rack.proofs.rack.Rack.sectors.Given as goal

abbrev pub invariant-loop-place : goal.invariant-loop-place
invariant-loop-place g l =
    CountedUpTo l.seen l.place
    (rack_state (λ b. (goal.Drive-dyn g (b.vtable, b.value)).state b.value) l.initial.self)
    (rack_state (λ b. (goal.Drive-dyn g (b.vtable, b.value)).state b.value) l.self)
