use Rattle.std.proofs.Common.{◌≡◌, ℕ, ◌<◌, ◌≤◌, get_or, bit_xor}
use Rattle.rs01_columns.proofs.adding.add_plainly.Given as goal

abbrev pub invariant-loop-k : goal.invariant-loop-k
invariant-loop-k l = record {
  done : (k : ℕ) → k < l.k → get_or l.column k 0 ≡ bit_xor (get_or l.initial.column k 0) (get_or l.other k 0);
  left : (k : ℕ) → l.k ≤ k → get_or l.column k 0 ≡ get_or l.initial.column k 0;
}
