use Rattle.std.proofs.Common.{◌≡◌, ℕ, ◌<◌, ◌≤◌, ◌∷◌, get_or, bit_xor}
use Rattle.rs01_gf256.specs.Field.{times}
use Rattle.rs01_erase.proofs.power_sums.eliminate.Given as goal

abbrev pub invariant-loop-sum : goal.invariant-loop-sum
invariant-loop-sum l = record {
  done : (j : ℕ) → j < l.sum-index → get_or l.sums j 0 ≡ bit_xor (get_or l.initial.sums j 0) (times l.x.0 (get_or (l.first ∷ l.initial.sums) j 0));
  left : (j : ℕ) → l.sum-index ≤ j → get_or l.sums j 0 ≡ get_or l.initial.sums j 0;
  before : l.before ≡ get_or (l.first ∷ l.initial.sums) l.sum-index 0;
}
