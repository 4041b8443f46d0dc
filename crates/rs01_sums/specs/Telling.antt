-- What holds of markers.
use Rattle.std.specs.Prelude.{◌≡◌, ℕ, ◌^◌, ◌<◌, length}
use Rattle.rs01_sums.specs.Marker.{marker}

-- a marker is a whole block
abbrev pub MarkerIsABlock : Type 0
MarkerIsABlock = (s : ℕ) → length (marker s) ≡ 2048

-- a marker tells its sector: two sectors have two markers
abbrev pub MarkerTellsSector : Type 0
MarkerTellsSector = (s t : ℕ) → s < 10 ^ 10 → t < 10 ^ 10 → marker s ≡ marker t → s ≡ t
