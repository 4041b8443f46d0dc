use Rattle.std.proofs.Common.{◌≡◌, ℕ, ◌+◌, ◌*◌, ◌<◌, ◌≤◌, length, get_or, bit_xor}
use Rattle.rs01_gf256.specs.Field.{times}
use Rattle.rs01_encode.proofs.columns.shift_columns.Given as goal

-- the columns before this one are shifted, and the others are as before
abbrev pub invariant-loop-k : goal.invariant-loop-k
invariant-loop-k l = record {
  long : length l.columns ≡ length l.initial.columns;
  done : (k m : ℕ) → k < l.k → m < 2048 → get_or l.columns (2048 * k + m) 0
      ≡ bit_xor (get_or l.initial.columns (2048 * (k + 1) + m) 0) (times (get_or l.low k 0) (get_or l.feedback m 0));
  left : (m : ℕ) → 2048 * l.k ≤ m → get_or l.columns m 0 ≡ get_or l.initial.columns m 0;
}
