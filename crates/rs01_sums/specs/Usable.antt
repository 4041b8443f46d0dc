-- Which blocks may stand for a sector.
use Rattle.std.specs.Prelude.{ℕ, ◌==◌, ◌&&◌, Bool, true, not, List, Option, slice_index}
use Rattle.std.specs.Option.{option_map_or}
use Rattle.std.specs.Str.{bytes_eq}
use Rattle.rs01_sums.specs.Crc.{crc}
use Rattle.rs01_sums.specs.Marker.{marker}

-- a block has the checksum that is recorded for the sector
abbrev pub has_sum : List ℕ → ℕ → List ℕ → Bool
has_sum sums s block = crc block == slice_index sums s

-- a block isn't the sector's marker and, where checksums are given, has the recorded one
abbrev pub is_usable : Option (List ℕ) → ℕ → List ℕ → Bool
is_usable sums s block = not (bytes_eq block (marker s)) && option_map_or (λ list. has_sum list s block) sums true
