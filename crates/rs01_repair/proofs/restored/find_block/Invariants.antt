use Rattle.std.proofs.Common.{◌≡◌, drop}
use Rattle.rs01_repair.specs.Restored.{block_of}
use Rattle.rs01_repair.proofs.restored.find_block.Given as goal

abbrev pub invariant-loop-item : goal.invariant-loop-item
invariant-loop-item l = block_of (drop l.item-index l.blocks) l.place ≡ block_of l.blocks l.place
