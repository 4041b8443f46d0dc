use Rattle.rs01_linear.proofs.TellLemmas.{one_more_kept}
use Rattle.rs01_adaptive.specs.Noting.{is_among}
use Rattle.rs01_adaptive.proofs.telling.sectors_among.Goals as goal

pub loop-sector-preserved : goal.loop-sector-preserved
loop-sector-preserved c =
    one_more_kept (is_among c.args.fates.now c.args.flags.now c.args.restored) c.loop-sector.list.items _ c.is_among.result c.loop-sector.sector
    c.loop-sector.invariant c.is_among.ensures c.in_ok-push_if.ensures
