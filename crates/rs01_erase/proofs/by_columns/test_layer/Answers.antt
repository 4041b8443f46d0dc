use Rattle.std.proofs.Common.{◌+◌, ◌*◌, ◌≤◌, List, ℕ, subst, sym, length, arith}
use Rattle.std.proofs.lemmas.List.Elements.{All-from_get_or}
use Rattle.rs01_erase.specs.Completed.{AreBlocksAt}
use Rattle.rs01_erase.proofs.Completing.{are_completed, holds, place_below}
use Rattle.rs01_erase.proofs.by_columns.test_layer.Goals as goal

pub answer_stopped-requires-clause-completed : goal.answer_stopped-requires-clause-completed
answer_stopped-requires-clause-completed c =
    are_completed c.args.input.now c.args.erased.now c.args.blocks.now _ c.args.syndromes.now _ c.requires.erased c.requires.filled c.requires.count c.items.ensures
    c.in_ok-count.ensures.most c.in_ok-count.ensures.codewords

pub blocks_at-requires-clause-within : goal.blocks_at-requires-clause-within
blocks_at-requires-clause-within c =
    All-from_get_or (λ p. 2048 * p + 2048 ≤ length c.args.blocks.now) c.args.erased.now 0
    (λ k h. omega (arith, place_below c.args.input.now c.args.erased.now k c.requires.erased h, c.requires.filled.size))

pub answer_restored-requires-clause-held : goal.answer_restored-requires-clause-held
answer_restored-requires-clause-held c =
    let Held : List ℕ → Type 0 = λ l. AreBlocksAt l c.args.blocks.now c.args.erased.now in
    holds c.args.input.now c.args.erased.now c.args.blocks.now c.deref.result.now c.requires.erased
    (λ b h.
    are_completed c.args.input.now c.args.erased.now c.args.blocks.now _ c.args.syndromes.now _ c.requires.erased c.requires.filled c.requires.count c.items.ensures
    c.in_ok-count.ensures.most c.in_ok-count.ensures.codewords b (omega arith))
    (subst Held (sym c.deref.ensures.value) c.in_ok-restored.ensures.bytes)
