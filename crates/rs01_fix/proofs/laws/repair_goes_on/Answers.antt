use Rattle.rs01_fix.proofs.GoesOn as lemma
use Rattle.rs01_fix.proofs.laws.repair_goes_on.Goals as goal

pub returns : goal.returns
returns c = lemma.repair_goes_on
