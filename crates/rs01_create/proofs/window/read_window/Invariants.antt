use Rattle.std.proofs.Common.{◌≡◌, ◌+◌, ◌*◌, false, length}
use Rattle.rs01_layers.specs.Extents.{IsExtentOf}
use Rattle.rs01_outside.specs.DeskState.{InFile, OnlyReads}
use Rattle.rs01_create.specs.Windows.{AllLong, HoldsBlocks}
use Rattle.rs01_create.proofs.window.read_window.Given as goal

-- the blocks at the first places were read
pub record Reading (g : goal.Over) (l : goal.Live-loop-place g) : Type 0 where
  pub reads : OnlyReads (g.D.Desk.state l.initial.desk) (g.D.Desk.state l.desk) false
  pub count_is : length l.window.items ≡ l.count
  pub room : length l.buffer.items ≡ 2048 * l.count
  pub long : AllLong (2048 * l.place) l.window.items
  pub read : InFile (g.D.Desk.state l.initial.desk) l.image (λ file. IsExtentOf file l.plan.extent
      → HoldsBlocks file l.plan.shape.parity (l.first + l.count) l.place l.window.items)

abbrev pub invariant-loop-place : goal.invariant-loop-place
invariant-loop-place g l = Reading g l
