use Rattle.std.proofs.Common.{◌≡◌, ℕ, ◌+◌, ◌<◌, ◌≤◌, get_or, bit_xor}
use Rattle.rs01_gf256.specs.Field.{times}
use Rattle.rs01_encode.proofs.register.shift.Given as goal

abbrev pub invariant-loop-k : goal.invariant-loop-k
invariant-loop-k l = record {
  done : (k : ℕ) → k < l.k → get_or l.register k 0 ≡ bit_xor (get_or l.initial.register (k + 1) 0) (times l.feedback.0 (get_or l.low k 0));
  left : (k : ℕ) → l.k ≤ k → get_or l.register k 0 ≡ get_or l.initial.register k 0;
}
