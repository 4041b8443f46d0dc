use Rattle.std.proofs.Common.{◌<◌}
use Rattle.rs01_intervals.specs.Tree.{AllJoinExcept, LeavesStay}
use Rattle.rs01_intervals.proofs.tree.join_above.Given as goal

abbrev pub invariant-loop-stale : goal.invariant-loop-stale
invariant-loop-stale l = record {
  inner : l.stale < l.leaves;
  rest : AllJoinExcept l.leaves l.stale l.nodes;
  leaves : LeavesStay l.leaves l.fn.nodes l.nodes;
}

abbrev pub decreases-loop-stale : goal.decreases-loop-stale
decreases-loop-stale l = l.stale
