use Rattle.rs01_columns.specs.Scan.{IsZeroLane}
use Rattle.rs01_columns.proofs.syndromes.lane_is_zero.Given as goal

abbrev pub invariant-loop-j : goal.invariant-loop-j
invariant-loop-j l = IsZeroLane l.bank l.l l.j
