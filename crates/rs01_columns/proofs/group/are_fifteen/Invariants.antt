use Rattle.std.proofs.Common.{◌≢◌, ℕ, ◌<◌, get_or}
use Rattle.rs01_columns.proofs.group.are_fifteen.Given as goal

abbrev pub invariant-loop-i : goal.invariant-loop-i
invariant-loop-i l = record {
  below : (n : ℕ) → n < l.i → get_or l.columns n 0 < 255;
  differ : (n m : ℕ) → n < l.i → m < n → get_or l.columns n 0 ≢ get_or l.columns m 0;
}
