use Rattle.std.proofs.Common.{◌<◌, arith, length}
use Rattle.rs01_linear.specs.Report.{tells_of}
use Rattle.rs01_linear.proofs.TellLemmas.{one_more_kept, tells_at}
use Rattle.rs01_linear.proofs.telling.sectors_told.Goals as goal

pub loop-sector-preserved : goal.loop-sector-preserved
loop-sector-preserved c =
    let below : c.loop-sector.sector < length c.args.fates.now = omega (arith, c.loop-sector-test.true) in
    one_more_kept (tells_of c.args.fates.now c.args.kind) c.loop-sector.list.items _ c.is_told.result c.loop-sector.sector
    c.loop-sector.invariant (tells_at c.args.fates.now c.args.kind c.loop-sector.sector _ c.is_told.result below c.is_told.ensures) c.in_ok-push_if.ensures
