use Rattle.std.proofs.Common.{◌∙◌, arith}
use Rattle.rs01_erase.proofs.RestoringLemmas.{one_more_placed, all_placed}
use Rattle.rs01_erase.proofs.correct.place_blocks.Goals as goal

pub loop-k-preserved : goal.loop-k-preserved
loop-k-preserved c =
    one_more_placed c.args.restored.now c.args.erased.now c.loop-k.k c.from.result c.of.result _ _ c.loop-k.invariant c.in_ok-push.ensures.items
    c.from.ensures (c.of.ensures ∙ c.in_ok-block.ensures.items_if_clones_equal (λ x y same. same) ∙ c.block_of.ensures)

pub returns : goal.returns
returns c = all_placed c.args.restored.now c.args.erased.now c.loop-k.k c.loop-k.list.items (omega arith) c.loop-k.invariant
