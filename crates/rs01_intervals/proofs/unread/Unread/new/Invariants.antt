use Rattle.std.proofs.Common.{◌≡◌, ◌<◌, ◌*◌, ◌+◌, ℕ, length}
use Rattle.rs01_intervals.specs.Tree.{node_at, summary_of_chunk}
use Rattle.rs01_intervals.proofs.unread.Unread.new.Given as goal

abbrev pub invariant-loop-chunk : goal.invariant-loop-chunk
invariant-loop-chunk l = record {
  count : length l.nodes.items ≡ 2 * l.leaves;
  leaf : (c : ℕ) → c < l.chunk → node_at l.nodes.items (l.leaves + c) ≡ summary_of_chunk l.flags.items c;
}
