use Rattle.rs01_verify.specs.Scanned.{HasAsked}
use Rattle.rs01_rack.specs.State.{rack_state}
use Rattle.rs01_verify.proofs.scanning.ask_all.Given as goal

abbrev pub invariant-loop-sector : goal.invariant-loop-sector
invariant-loop-sector g l =
    HasAsked l.medium l.sector
    (rack_state (λ b. (goal.Drive-dyn g (b.vtable, b.value)).state b.value) l.initial.rack)
    (rack_state (λ b. (goal.Drive-dyn g (b.vtable, b.value)).state b.value) l.rack)
    l.tally
