use Rattle.rs01_top.proofs.Restorings as lemma
use Rattle.rs01_top.proofs.laws.runs_bring_back.Goals as goal

pub returns : goal.returns
returns c = lemma.runs_bring_back
