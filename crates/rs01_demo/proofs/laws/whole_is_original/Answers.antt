use Rattle.rs01_demo.proofs.WholeLemmas.{whole_is_original}
use Rattle.rs01_demo.proofs.laws.whole_is_original.Goals as goal

pub returns : goal.returns
returns c = whole_is_original
