use Rattle.std.proofs.Common.{◌≡◌}
use Rattle.std.specs.Prelude.{filter}
use Rattle.std.specs.List.{range_with_len}
use Rattle.rs01_adaptive.specs.Noting.{is_among}
use Rattle.rs01_adaptive.proofs.telling.sectors_among.Given as goal

abbrev pub invariant-loop-sector : goal.invariant-loop-sector
invariant-loop-sector l = l.list.items ≡ filter (is_among l.fates l.flags l.restored) (range_with_len 0 l.sector)
