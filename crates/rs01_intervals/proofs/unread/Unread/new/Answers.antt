use Rattle.std.proofs.Common.{sym, ◌≡◌, ◌<◌, ◌*◌, ◌+◌, ℕ, length, arith}
use Rattle.rs01_intervals.specs.Tree.{node_at, summary_of_chunk}
use Rattle.rs01_intervals.proofs.Covering.{built}
use Rattle.rs01_intervals.proofs.unread.Unread.new.Goals as goal

pub invariant_of-result : goal.invariant_of-result
invariant_of-result c =
    let leaves = c.next_power_of_two-leaves.result in
    let kept = c.loop-chunk.invariant in
    let leaf : (k : ℕ) → k < leaves → node_at c.loop-chunk.nodes.items (leaves + k) ≡ summary_of_chunk c.in_ok-flags.flags.items k =
    λ k below. kept.leaf k (omega arith) in
    let all : length c.in_ok-flags.flags.items ≡ c.args.sectors = omega (arith, c.in_ok-flags.ensures.len, c.in_ok-flags.flags.ok) in
    let double : c.loop-chunk.nodes.len ≡ 2 * leaves = omega (arith, kept.count, c.loop-chunk.nodes.ok) in
    built _ _ _ _ _ _ _ (omega arith) c.next_power_of_two-leaves.ensures.power (omega (arith, c.next_power_of_two-leaves.ensures.lower_bound)) leaf
    c.deref_mut.ensures.value (omega arith) (sym c.loop-chunk.nodes.ok.0) double c.join_all.ensures.all c.join_all.ensures.leaves
