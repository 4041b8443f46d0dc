use Rattle.std.proofs.Common.{◌≡◌, ◌*◌, length}
use Rattle.std.specs.Prelude.{IsTrue, false}
use Rattle.std.specs.List.{flat_map, range_with_len}
use Rattle.rs01_outside.specs.DeskState.{OnlyReads}
use Rattle.rs01_outside.specs.Files.{bytes_of}
use Rattle.rs01_reader.specs.Inputs.{kept_at}
use Rattle.rs01_reader.proofs.input.read_blocks.Given as goal

pub record Gathering (g : goal.Over) (l : goal.Live-loop-place g) : Type 0 where
  pub reads : OnlyReads (g.D.Desk.state l.initial.desk) (g.D.Desk.state l.desk) false
  pub long : length l.blocks.items ≡ 2048 * l.place
  pub told :
      IsTrue (g.D.Desk.state l.initial.desk).tells
      → l.blocks.items ≡ flat_map (kept_at l.ecc l.course (bytes_of (g.D.Desk.state l.initial.desk).files l.image) l.layer) (range_with_len 0 l.place)

abbrev pub invariant-loop-place : goal.invariant-loop-place
invariant-loop-place g l = Gathering g l
