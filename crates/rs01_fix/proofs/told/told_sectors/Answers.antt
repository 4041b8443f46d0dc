use Rattle.rs01_repair.proofs.Numbered.{one_more_kept}
use Rattle.rs01_fix.specs.Steps.{is_told}
use Rattle.rs01_fix.proofs.told.told_sectors.Goals as goal

pub loop-sector-preserved : goal.loop-sector-preserved
loop-sector-preserved c = λ was kept.
    one_more_kept (is_told c.args.restored c.args.found.now was) c.loop-sector.list.items _ c.belongs.result c.loop-sector.sector
    (c.loop-sector.invariant was kept) (c.belongs.ensures was kept) c.in_ok-push_if.ensures
