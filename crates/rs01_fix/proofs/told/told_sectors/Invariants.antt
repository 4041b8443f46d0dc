use Rattle.std.proofs.Common.{◌≡◌}
use Rattle.std.specs.Prelude.{filter}
use Rattle.std.specs.List.{range_with_len}
use Rattle.rs01_repair.specs.Finding.{Sources, layers_in}
use Rattle.rs01_fix.specs.Steps.{AreKept, is_told}
use Rattle.rs01_fix.proofs.told.told_sectors.Given as goal

abbrev pub invariant-loop-sector : goal.invariant-loop-sector
invariant-loop-sector l = (was : Sources l.found) → AreKept l.found was (layers_in l.found) l.repairs
    → l.list.items ≡ filter (is_told l.restored l.found was) (range_with_len 0 l.sector)
