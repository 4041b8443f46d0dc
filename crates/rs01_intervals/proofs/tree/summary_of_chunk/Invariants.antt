use Rattle.std.proofs.Common.{◌≡◌}
use Rattle.rs01_intervals.specs.Tree.{summary_between}
use Rattle.rs01_intervals.proofs.tree.summary_of_chunk.Given as goal

abbrev pub invariant-loop-place : goal.invariant-loop-place
invariant-loop-place l = l.known ≡ summary_between l.flags l.from l.place
