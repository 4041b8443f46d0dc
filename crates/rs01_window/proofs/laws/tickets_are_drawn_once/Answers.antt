use Rattle.rs01_window.proofs.RunLemmas.{tickets_once}
use Rattle.rs01_window.proofs.laws.tickets_are_drawn_once.Goals as goal

pub returns : goal.returns
returns c = tickets_once
