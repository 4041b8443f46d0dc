use Rattle.rs01_report.proofs.MaximalLemmas as lemmas
use Rattle.rs01_report.proofs.laws.runs_are_maximal.Goals as goal

pub returns : goal.returns
returns c = record { same_numbers = lemmas.runs_keep_the_list; maximal = lemmas.runs_are_maximal }
