use Rattle.rs01_states.proofs.SparedLemmas.{none-is-left, spared-lie-within, others-stay}
use Rattle.rs01_states.proofs.laws.the_needless_are_spared.Goals as goal

pub returns : goal.returns
returns c = record { left = none-is-left; within = spared-lie-within; others = others-stay }
