use Rattle.std.proofs.Common.{◌≡◌, ◌≢◌, ℕ, ◌<◌}
use Rattle.rs01_columns.specs.Bank.{lane}
use Rattle.rs01_columns.proofs.certificate.lay_unit_words.Given as goal

abbrev pub invariant-loop-i : goal.invariant-loop-i
invariant-loop-i l = record {
  ones : (m : ℕ) → m < l.i → lane l.bank m m ≡ 1;
  zeros : (m j : ℕ) → m < 1024 → j ≢ m → lane l.bank m j ≡ 0;
}
