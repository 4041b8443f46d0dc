use Rattle.std.proofs.Common.{◌<◌, ◌≤◌, ℕ}
use Rattle.rs01_intervals.specs.Tree.{Joins, LeavesStay}
use Rattle.rs01_intervals.proofs.tree.join_all.Given as goal

abbrev pub invariant-loop-lowest : goal.invariant-loop-lowest
invariant-loop-lowest l = record {
  inner : l.lowest ≤ l.leaves;
  above : (j : ℕ) → 1 ≤ j → l.lowest ≤ j → j < l.leaves → Joins l.nodes j;
  leaves : LeavesStay l.leaves l.fn.nodes l.nodes;
}

abbrev pub decreases-loop-lowest : goal.decreases-loop-lowest
decreases-loop-lowest l = l.lowest
