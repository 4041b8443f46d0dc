use Rattle.std.proofs.Common.{◌∙◌, ap, arith, Some}
use Rattle.rs01_repair.proofs.PlacedLemmas.{found_here, not_here, nowhere}
use Rattle.rs01_repair.proofs.restored.find_block.Goals as goal

pub returns-then-item-place : goal.returns-then-item-place
returns-then-item-place c =
    ap Some c.items.ensures
    ∙ found_here c.args.blocks.now c.loop-item.item-index c.args.place _ (omega arith) c.item-item.is c.if-item-place.true c.loop-item.invariant

pub loop-item-preserved : goal.loop-item-preserved
loop-item-preserved c =
    not_here c.args.blocks.now c.loop-item.item-index c.args.place _ (omega arith) c.item-item.is c.if-item-place.false c.loop-item.invariant

pub returns : goal.returns
returns c = nowhere c.args.blocks.now c.loop-item.item-index c.args.place (omega arith) c.loop-item.invariant
