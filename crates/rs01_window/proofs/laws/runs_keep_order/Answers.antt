use Rattle.rs01_window.proofs.RunLemmas.{runs_in_order}
use Rattle.rs01_window.proofs.laws.runs_keep_order.Goals as goal

pub returns : goal.returns
returns g c = runs_in_order g.T.LayerTask.value
