use Rattle.std.proofs.Common.{◌≡◌, ℕ, ◌+◌, ◌<◌}
use Rattle.rs01_columns.specs.Bank.{lane}
use Rattle.rs01_columns.specs.Certificate.{root_values, unit_word}
use Rattle.rs01_columns.proofs.certificate.hold_values.Given as goal

abbrev pub invariant-loop-place : goal.invariant-loop-place
invariant-loop-place l = (i : ℕ) → i < l.place → (j : ℕ) → j < l.r → lane l.bank i (255 + j) ≡ root_values (unit_word 255 i) j
