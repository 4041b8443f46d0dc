-- When no error correction file is made.
use Rattle.std.specs.Prelude.{ℕ, ◌==◌, List, length, find, nat_lt, if◌then◌else◌, Option, Some, None}
use Rattle.std.specs.List.{range_with_len}
use Rattle.std.specs.Str.{bytes_eq}
use Rattle.std.specs.Option.{option_map, option_or}
use Rattle.md5.specs.Md5.{md5}
use Rattle.rs01_layers.specs.Sectors.{sectors_of, last_of, sector}
use Rattle.rs01_layers.specs.Layout.{layers_of}
use Rattle.rs01_sums.specs.Marker.{marker}
use Rattle.rs01_report.specs.declared.reports.CreateReport.{CreateReport}
use Rattle.rs01_create.specs.declared.refusal.CreateRefusal.{CreateRefusal}
use Rattle.rs01_create.specs.declared.refusal.CreateRefusal.TheVariants.{NoImage, EmptyImage, TooManySectors, Marker}

-- the first sector that is its own marker
unfoldable pub first_marked : List ℕ → Option ℕ
first_marked image = find (λ s. bytes_eq (sector image s) (marker s)) (range_with_len 0 (sectors_of (length image)))

-- why an image of this many bytes can't be protected, if so
abbrev pub size_refusal : ℕ → Option CreateRefusal
size_refusal size =
    if size == 0 then Some EmptyImage
    else if nat_lt 16777215 (sectors_of size) then Some (TooManySectors (sectors_of size))
    else None

-- why an image can't be protected, if so: its size, or a sector that is marked as missing
unfoldable pub image_refusal : List ℕ → Option CreateRefusal
image_refusal image = option_or (size_refusal (length image)) (option_map Marker (first_marked image))

-- the same of a file that may not be there
abbrev pub refusal_of : Option (List ℕ) → Option CreateRefusal
refusal_of None = Some NoImage
refusal_of (Some image) = image_refusal image

-- what is told of a new file
unfoldable pub report_of : List ℕ → ℕ → CreateReport
report_of image r = record {
  sectors = sectors_of (length image);
  layers = layers_of (sectors_of (length image)) r;
  parity = r;
  last_bytes = last_of (length image);
  image_sum = md5 image;
}
