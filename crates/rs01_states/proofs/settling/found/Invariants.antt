use Rattle.std.proofs.Common.{◌≡◌, take}
use Rattle.rs01_states.specs.Sparing.{found}
use Rattle.rs01_states.proofs.settling.found.Given as goal

abbrev pub invariant-loop-is_good : goal.invariant-loop-is_good
invariant-loop-is_good l = l.states.items ≡ found (take l.is_good-index l.good)
