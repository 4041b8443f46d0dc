-- Nothing failed so far.
use Rattle.std.proofs.Common.{◌≡◌}
use Rattle.rs01_host.proofs.system.System.refuse_swapped.Given as goal

abbrev pub invariant-loop-k : goal.invariant-loop-k
invariant-loop-k g l = l.faults.count ≡ l.fn.faults.count
