use Rattle.rs01_fix.proofs.ComesBack as lemma
use Rattle.rs01_fix.proofs.laws.images_come_back.Goals as goal

pub returns : goal.returns
returns c = lemma.images_come_back
