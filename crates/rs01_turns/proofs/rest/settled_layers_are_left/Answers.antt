use Rattle.rs01_turns.proofs.Layering.{settled-are-left, settled-stay, within-goes-on, within-to-the-end}
use Rattle.rs01_turns.proofs.rest.settled_layers_are_left.Goals as goal

pub returns : goal.returns
returns c = record {
  end = within-to-the-end;
  on = within-goes-on;
  left = settled-are-left;
  stay = settled-stay;
}
