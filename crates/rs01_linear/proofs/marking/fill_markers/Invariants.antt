use Rattle.std.proofs.Common.{◌≡◌, ◌-◌, take}
use Rattle.std.specs.List.{flat_map, range_with_len}
use Rattle.rs01_layers.specs.Sectors.{length_of}
use Rattle.rs01_sums.specs.Marker.{marker}
use Rattle.rs01_linear.proofs.marking.fill_markers.Given as goal

abbrev pub invariant-loop-sector : goal.invariant-loop-sector
invariant-loop-sector l =
    l.bytes.items ≡ flat_map (λ s. take (length_of l.extent.sectors l.extent.last_bytes s) (marker s)) (range_with_len l.first (l.sector - l.first))
