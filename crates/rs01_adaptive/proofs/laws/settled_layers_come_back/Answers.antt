use Rattle.rs01_adaptive.proofs.ComesBack.{settled-come-back}
use Rattle.rs01_adaptive.proofs.laws.settled_layers_come_back.Goals as goal

pub returns : goal.returns
returns c = settled-come-back
