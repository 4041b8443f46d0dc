use Rattle.std.proofs.Common.{◌≡◌, ℕ, ◌+◌, ◌<◌}
use Rattle.rs01_columns.specs.Bank.{lane}
use Rattle.rs01_columns.specs.Certificate.{root_values, unit_word}
use Rattle.rs01_columns.proofs.certificate.holds_values.Given as goal

abbrev pub invariant-loop-j : goal.invariant-loop-j
invariant-loop-j l = (j : ℕ) → j < l.j → lane l.bank l.place (255 + j) ≡ root_values (unit_word 255 l.place) j
