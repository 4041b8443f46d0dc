use Rattle.rs01_repair.proofs.InputLemmas as lemma
use Rattle.rs01_repair.proofs.laws.inputs_are_answered.Goals as goal

pub returns : goal.returns
returns c = lemma.inputs_are_answered
