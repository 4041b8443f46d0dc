use Rattle.std.proofs.Common.{◌≡◌, ℕ, ◌^◌, ◌<◌, ◌≤◌, get_or, take, bit_xor}
use Rattle.rs01_gf256.specs.Field.{times}
use Rattle.rs01_erase.specs.PowerSums.{power_sum}
use Rattle.rs01_erase.proofs.power_sums.divide.Given as goal

abbrev pub invariant-loop-k : goal.invariant-loop-k
invariant-loop-k l = record {
  done : (j : ℕ) → j < l.k → times (get_or l.values j 0) (bit_xor (get_or l.locators j 0) l.x.0) ≡ get_or l.initial.values j 0;
  bytes : (j : ℕ) → get_or l.values j 0 < 2 ^ 8;
  left : (j : ℕ) → l.k ≤ j → get_or l.values j 0 ≡ get_or l.initial.values j 0;
  total : l.total ≡ power_sum 0 (take l.k l.values) l.locators;
}
