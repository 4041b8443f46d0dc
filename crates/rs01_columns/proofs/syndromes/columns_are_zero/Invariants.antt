use Rattle.std.proofs.Common.{ℕ, ◌<◌}
use Rattle.rs01_columns.specs.Scan.{IsZeroLane}
use Rattle.rs01_columns.proofs.syndromes.columns_are_zero.Given as goal

abbrev pub invariant-loop-j : goal.invariant-loop-j
invariant-loop-j l = (m : ℕ) → m < 1024 → IsZeroLane l.bank m l.j
