use Rattle.rs01_turns.proofs.Ending.{others-are-left, unread-ends}
use Rattle.rs01_turns.proofs.Times.{ends-all}
use Rattle.rs01_turns.proofs.rest.each_sector_ends.Goals as goal

pub returns : goal.returns
returns c = record {
  unread = unread-ends;
  others = others-are-left;
  all = ends-all;
}
