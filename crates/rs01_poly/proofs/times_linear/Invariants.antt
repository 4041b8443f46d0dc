use Rattle.std.proofs.Common.{◌≡◌, ℕ, ◌-◌, ◌<◌, ◌≤◌, get_or, bit_xor}
use Rattle.rs01_gf256.specs.Field.{times}
use Rattle.rs01_poly.proofs.times_linear.Given as goal

abbrev pub invariant-loop-k : goal.invariant-loop-k
invariant-loop-k l = record {
  low : 1 ≤ l.k;
  done : (k : ℕ) → l.k ≤ k → k < l.used → get_or l.coeffs k 0 ≡ bit_xor (get_or l.initial.coeffs k 0) (times l.root.0 (get_or l.initial.coeffs (k - 1) 0));
  left : (k : ℕ) → k < l.k → get_or l.coeffs k 0 ≡ get_or l.initial.coeffs k 0;
  above : (k : ℕ) → l.used ≤ k → get_or l.coeffs k 0 ≡ get_or l.initial.coeffs k 0;
}
