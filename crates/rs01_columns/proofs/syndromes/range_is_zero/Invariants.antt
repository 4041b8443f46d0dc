use Rattle.std.proofs.Common.{ℕ, ◌<◌, ◌≤◌, get_or}
use Rattle.rs01_columns.proofs.syndromes.range_is_zero.Given as goal

abbrev pub invariant-loop-k : goal.invariant-loop-k
invariant-loop-k l = (k : ℕ) → l.at ≤ k → k < l.k → get_or l.bank k 0 ≤ l.greatest
