use Rattle.std.proofs.Common.{◌≡◌, length, false}
use Rattle.std.specs.Prelude.{IsTrue}
use Rattle.rs01_outside.specs.DeskState.{OnlyReads}
use Rattle.rs01_outside.specs.Files.{bytes_of}
use Rattle.rs01_repair.specs.Parts.{HaveBlocks, HaveBlocksOf}
use Rattle.rs01_repair.proofs.batch.read_blocks.Given as goal

abbrev pub invariant-loop-place : goal.invariant-loop-place
invariant-loop-place g l = record {
  reads : OnlyReads (g.D.Desk.state l.initial.desk) (g.D.Desk.state l.desk) false;
  len : length l.parts.items ≡ l.count;
  blocks : HaveBlocks l.found l.place l.parts.items;
  told : IsTrue (g.D.Desk.state l.initial.desk).tells
      → HaveBlocksOf l.found (bytes_of (g.D.Desk.state l.initial.desk).files l.image) l.first l.place l.parts.items;
}
