use Rattle.rs01_sums.proofs.MarkerLemmas.{length-marker, marker_tells_sector}
use Rattle.rs01_sums.proofs.laws.markers_tell_their_sector.Goals as goal

pub returns : goal.returns
returns c = record { block = length-marker; tells = marker_tells_sector }
