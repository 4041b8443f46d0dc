use Rattle.std.proofs.Common.{ℕ, ◌<◌, ◌≤◌, get_or, length}
use Rattle.rs01_verify.proofs.fullest.largest.Given as goal

abbrev pub invariant-loop-place : goal.invariant-loop-place
invariant-loop-place l = record {
  reached : l.best ≤ l.place;
  within : 0 < length l.counts → l.best < length l.counts;
  below : (k : ℕ) → k < l.place → get_or l.counts k 0 ≤ get_or l.counts l.best 0;
  before : (k : ℕ) → k < l.best → get_or l.counts k 0 < get_or l.counts l.best 0;
}
