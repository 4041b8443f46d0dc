use Rattle.rs01_intervals.proofs.Choosing as lemmas
use Rattle.rs01_intervals.proofs.laws.longest_among_all.Goals as goal

pub returns : goal.returns
returns c = record {
  maximal = lemmas.longest-is-maximal;
  longest = lemmas.none-is-longer;
  first = lemmas.none-is-before;
  none = lemmas.none-means-clear;
}
