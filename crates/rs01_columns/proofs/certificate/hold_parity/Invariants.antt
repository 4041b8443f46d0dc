use Rattle.std.proofs.Common.{◌≡◌, ℕ, ◌+◌, ◌-◌, ◌<◌}
use Rattle.rs01_columns.specs.Bank.{lane}
use Rattle.rs01_columns.specs.Certificate.{parity_bytes, unit_word}
use Rattle.rs01_columns.proofs.certificate.hold_parity.Given as goal

abbrev pub invariant-loop-place : goal.invariant-loop-place
invariant-loop-place l = (i : ℕ) → i < l.place → (j : ℕ) → j < l.r → lane l.bank i (255 - l.r + j) ≡ parity_bytes (unit_word (255 - l.r) i) j
