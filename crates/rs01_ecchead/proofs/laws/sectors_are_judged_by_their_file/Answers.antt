use Rattle.rs01_ecchead.proofs.ConditionLemmas.{judged_by_the_file}
use Rattle.rs01_ecchead.proofs.laws.sectors_are_judged_by_their_file.Goals as goal

pub returns : goal.returns
returns c = judged_by_the_file
