use Rattle.std.proofs.Common.{◌≡◌, ◌≤◌, count_by}
use Rattle.std.specs.List.{range_with_len}
use Rattle.rs01_linear.specs.Report.{tells_of}
use Rattle.rs01_linear.proofs.telling.number_told.Given as goal

abbrev pub invariant-loop-sector : goal.invariant-loop-sector
invariant-loop-sector l = record {
  counted : l.number ≡ count_by (tells_of l.fates l.kind) (range_with_len 0 l.sector);
  few : l.number ≤ l.sector;
}
