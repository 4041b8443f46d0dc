use Rattle.std.proofs.Common.{◌∙◌, ap, sym, arith}
use Rattle.std.proofs.lemmas.List.{get_or_read}
use Rattle.rs01_states.specs.Sparing.{is_unread}
use Rattle.rs01_states.specs.declared.state.State.TheVariants.{Good}
use Rattle.rs01_states.proofs.StateLemmas.{unread-passed}
use Rattle.rs01_states.proofs.states.States.first_unread_from.Goals as goal

pub loop-at-preserved : goal.loop-at-preserved
loop-at-preserved c =
    let read = get_or_read c.self.inside.states.items c.loop-at.at c.index.result.now (omega arith) c.index.ensures Good in
    c.loop-at.invariant ∙ unread-passed c.self.inside.states.items c.loop-at.at (omega arith) (ap is_unread (sym read) ∙ sym c.is_unread.ensures ∙ c.if-is_unread.false)
