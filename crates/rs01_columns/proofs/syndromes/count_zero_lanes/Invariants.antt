use Rattle.rs01_columns.specs.Scan.{AreZeroLanes}
use Rattle.rs01_columns.proofs.syndromes.count_zero_lanes.Given as goal

abbrev pub invariant-loop-l : goal.invariant-loop-l
invariant-loop-l l = AreZeroLanes l.bank l.l l.r
