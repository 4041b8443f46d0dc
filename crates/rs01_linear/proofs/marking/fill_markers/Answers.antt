use Rattle.std.proofs.Common.{take}
use Rattle.rs01_layers.specs.Sectors.{length_of}
use Rattle.rs01_sums.specs.Marker.{marker}
use Rattle.rs01_linear.proofs.MarkLemmas.{one_more}
use Rattle.rs01_linear.proofs.marking.fill_markers.Goals as goal

pub loop-sector-preserved : goal.loop-sector-preserved
loop-sector-preserved c =
    one_more (λ s. take (length_of c.args.extent.now.sectors c.args.extent.now.last_bytes s) (marker s)) c.args.first c.loop-sector.sector
    c.loop-sector.bytes.items _ c.loop-sector.auto.sector c.loop-sector.invariant c.in_ok-push_marker.ensures
