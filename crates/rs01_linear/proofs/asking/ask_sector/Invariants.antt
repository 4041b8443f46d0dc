use Rattle.std.proofs.Common.{◌-◌, length}
use Rattle.std.specs.Option.{option_map}
use Rattle.rs01_rack.specs.State.{rack_state}
use Rattle.rs01_linear.specs.Asking.{known_with}
use Rattle.rs01_linear.proofs.AskLemmas.{Passed}
use Rattle.rs01_linear.proofs.asking.ask_sector.Given as goal

abbrev pub invariant-loop-place : goal.invariant-loop-place
invariant-loop-place g l =
    Passed (known_with l.extent (option_map (λ kept. kept.now.list) l.sums)) l.sector l.tries l.first l.answered
    (rack_state (λ b. (goal.Drive-dyn g (b.vtable, b.value)).state b.value) l.initial.rack)
    (rack_state (λ b. (goal.Drive-dyn g (b.vtable, b.value)).state b.value) l.rack)

abbrev pub decreases-loop-place : goal.decreases-loop-place
decreases-loop-place g l = length l.rack.drives.items - l.first
