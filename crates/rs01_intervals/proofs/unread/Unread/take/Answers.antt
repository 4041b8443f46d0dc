use Rattle.std.proofs.Common.{sym, Bool, List, false, slice_set, ◌∙◌, ◌/◌, ◌<◌, ap, ◌≡◌, length, arith}
use Rattle.rs01_intervals.specs.Tree.{summary_of_chunk}
use Rattle.rs01_intervals.proofs.Covering.{taken}
use Rattle.rs01_intervals.proofs.Choosing.{set-is-there}
use Rattle.rs01_intervals.proofs.unread.Unread.take.Goals as goal

pub invariant_of-self : goal.invariant_of-self
invariant_of-self c =
    let sector = c.args.sector in
    let same = ap length c.self.view_is in
    let there : c.args.sector < length c.self.inside.flags.items =
    omega (arith, set-is-there c.args.self.now sector c.requires, same) in
    let leaf : c.summary_of_chunk.result ≡ summary_of_chunk (slice_set c.self.inside.flags.items sector false) (sector / 64) =
    c.summary_of_chunk.ensures ∙ ap (λ (flags : List Bool). summary_of_chunk flags (sector / 64)) c.deref.ensures.value in
    taken _ _ _ _ _ _ _ _ _ c.self.invariant there leaf c.deref_mut.ensures.value (omega arith) (sym c.self.inside.nodes.ok.0) c.join_above.ensures.all c.join_above.ensures.leaves
