use Rattle.std.proofs.Common.{◌≡◌, ℕ, ◌^◌, ◌<◌, get_or}
use Rattle.rs01_gf256.specs.Field.{times, power}
use Rattle.rs01_poly.specs.Code.{AgreeOutside}
use Rattle.rs01_erase.specs.PowerSums.{locator}
use Rattle.rs01_erase.proofs.restore.put.Given as goal

abbrev pub invariant-loop-k : goal.invariant-loop-k
invariant-loop-k l = record {
  done : (j : ℕ) → j < l.k → times (get_or l.word (get_or l.erased j 0) 0) (power (locator (get_or l.erased j 0)) 112) ≡ get_or l.values j 0;
  bytes : (j : ℕ) → get_or l.word j 0 < 2 ^ 8;
  others : AgreeOutside l.word l.initial.word l.erased;
}
