-- What a run finds and leaves outside of itself.
use Rattle.std.specs.Prelude.{ℕ, List}
use Rattle.rs01_outside.specs.DeskState.{DeskState}
use Rattle.rs01_outside.specs.DriveView.{DriveView}
use Rattle.rs01_outside.specs.Files.{Files}
use Rattle.rs01_outside.specs.SinkState.{SinkState}
use Rattle.rs01_rack.specs.Rack.{RackState, views_of}

pub record Outside : Type 0 where
  -- the bytes of each name's file
  pub files : Files
  -- what each drive means, in order
  pub views : List DriveView
  -- how many reads were asked of the drives, up to the last value of a u128
  pub asks : ℕ

-- what a run works on
pub record World : Type 0 where
  pub desk : DeskState
  pub rack : RackState
  pub out : SinkState

abbrev pub world : DeskState → RackState → SinkState → World
world desk rack out = record { desk = desk; rack = rack; out = out }

-- what a desk and drives tell
abbrev pub told_by : DeskState → RackState → Outside
told_by desk rack = record { files = desk.files; views = views_of rack; asks = rack.asks }

abbrev pub outside_of : World → Outside
outside_of around = told_by around.desk around.rack
