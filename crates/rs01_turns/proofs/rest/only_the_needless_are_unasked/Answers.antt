use Rattle.rs01_turns.proofs.Layering.{beyond-are-asked, unasked-lie-within}
use Rattle.rs01_turns.proofs.rest.only_the_needless_are_unasked.Goals as goal

pub returns : goal.returns
returns c = record {
  within = unasked-lie-within;
  beyond = beyond-are-asked;
}
