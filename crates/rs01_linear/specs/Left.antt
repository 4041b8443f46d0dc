-- What a reading leaves of the image file y.
use Rattle.std.specs.Prelude.{ℕ, List, ◌++◌, drop, if◌then◌else◌, map, take}
use Rattle.std.specs.List.{flat_map, range_with_len}
use Rattle.rs01_layers.specs.Sectors.{length_of}
use Rattle.rs01_sums.specs.Marker.{marker}
use Rattle.rs01_outside.specs.DriveView.{DriveView}
use Rattle.rs01_ecchead.specs.Erased.{Known, block_in, image_len, is_erased}
use Rattle.rs01_linear.specs.Course.{Manner, whole_reading}
use Rattle.rs01_linear.specs.declared.fate.Fate.{Fate}
use Rattle.rs01_linear.specs.declared.fate.Fate.TheVariants.{Kept, LeftOut}

-- the bytes of a sector before anything is asked for: its own, or its marker's where it isn't good
abbrev pub marked_sector : Known → List ℕ → ℕ → List ℕ
marked_sector known y s =
    take (length_of known.sectors known.last_bytes s) (if is_erased known y s then marker s else block_in known y s)

-- the file once each sector that isn't good has its marker
unfoldable pub marked : Known → List ℕ → List ℕ
marked known y = flat_map (marked_sector known y) (range_with_len 0 known.sectors) ++ drop (image_len known) y

-- the file after the whole reading
unfoldable pub image_left : Known → Manner → List ℕ → List DriveView → List ℕ
image_left known manner y views = (whole_reading known manner y views).image ++ drop (image_len known) y

-- the first bytes of one file and the others of another
abbrev pub mixed : ℕ → List ℕ → List ℕ → List ℕ
mixed n one other = take n one ++ drop n other

-- what is known of a sector before anything is asked for
abbrev pub first_fate : Known → List ℕ → ℕ → Fate
first_fate known y s = if is_erased known y s then LeftOut else Kept

abbrev pub first_fates : Known → List ℕ → List Fate
first_fates known y = map (first_fate known y) (range_with_len 0 known.sectors)
