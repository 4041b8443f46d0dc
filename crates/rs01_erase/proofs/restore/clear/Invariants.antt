use Rattle.std.proofs.Common.{◌≡◌, ℕ, ◌^◌, ◌<◌, get_or}
use Rattle.rs01_poly.specs.Code.{AgreeOutside}
use Rattle.rs01_erase.proofs.restore.clear.Given as goal

abbrev pub invariant-loop-place : goal.invariant-loop-place
invariant-loop-place l = record {
  cleared : (k : ℕ) → k < l.place-index → get_or l.word (get_or l.erased k 0) 0 ≡ 0;
  bytes : (j : ℕ) → get_or l.word j 0 < 2 ^ 8;
  others : AgreeOutside l.word l.initial.word l.erased;
}
