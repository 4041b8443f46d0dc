use Rattle.std.proofs.Common.{◌≡◌, ◌*◌, length}
use Rattle.rs01_erase.specs.Completed.{HoldsBlocks}
use Rattle.rs01_erase.proofs.by_columns.blocks_at.Given as goal

abbrev pub invariant-loop-place : goal.invariant-loop-place
invariant-loop-place l = record {
  long : length l.list.items ≡ 2048 * l.place-index;
  held : HoldsBlocks l.list.items l.blocks l.erased l.place-index;
}
