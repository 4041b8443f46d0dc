use Rattle.std.proofs.Common.{◌≡◌}
use Rattle.std.specs.Prelude.{filter}
use Rattle.std.specs.List.{range_with_len}
use Rattle.rs01_linear.specs.Report.{tells_of}
use Rattle.rs01_linear.proofs.telling.sectors_told.Given as goal

abbrev pub invariant-loop-sector : goal.invariant-loop-sector
invariant-loop-sector l = l.list.items ≡ filter (tells_of l.fates l.kind) (range_with_len 0 l.sector)
