use Rattle.rs01_sums.specs.Marker.{marker}
use Rattle.rs01_sums.proofs.markers.marker.Goals as goal

pub returns : goal.returns
unfolding marker
returns c = cc
