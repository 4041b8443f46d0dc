-- Which sectors of an image file are erased, judged by what is known of the protected image. The image file is the
-- list y, and s is the number of a sector.
use Rattle.std.specs.Prelude.{ℕ, ◌≡◌, ◌+◌, ◌-◌, ◌*◌, ◌==◌, ◌&&◌, ◌||◌, Bool, false, not, nat_lt, List, length, filter, count_by, map, Option, Some}
use Rattle.std.specs.List.{range_with_len}
use Rattle.std.specs.Str.{bytes_eq}
use Rattle.rs01_layers.specs.Sectors.{block, length_of}
use Rattle.rs01_layers.specs.Layout.{layer_of, layers_of}
use Rattle.rs01_sums.specs.Marker.{marker}
use Rattle.rs01_sums.specs.Usable.{is_usable}
use Rattle.rs01_ecchead.specs.Opened.{Opened}
use Rattle.rs01_ecchead.specs.declared.opened.Ecc.{Ecc}

-- what is known of an image: its number of sectors, the bytes of the last one and, where they are recorded, the
-- checksums of all
pub record Known : Type 0 where
  pub sectors : ℕ
  pub last_bytes : ℕ
  pub sums : Option (List ℕ)

-- what an opened error correction file tells of its image
abbrev pub known_by : Opened → Known
known_by opened = record { sectors = opened.fields.sectors; last_bytes = opened.fields.last_bytes; sums = Some opened.sums }

abbrev pub known_of : Ecc → Known
known_of ecc = record { sectors = ecc.head.sectors; last_bytes = ecc.head.last_bytes; sums = Some ecc.sums.list }

-- how many bytes the image has
abbrev pub image_len : Known → ℕ
image_len known = 2048 * (known.sectors - 1) + known.last_bytes

-- a sector is absent where the file ends before it does
abbrev pub is_absent : Known → List ℕ → ℕ → Bool
is_absent known y s = nat_lt (length y) (2048 * s + length_of known.sectors known.last_bytes s)

-- what the file has for a sector that isn't absent: its bytes, and zeros up to 2048
abbrev pub block_in : Known → List ℕ → ℕ → List ℕ
block_in known y s = block y s (length_of known.sectors known.last_bytes s)

-- a sector is erased where it is absent or its block isn't usable
unfoldable pub is_erased : Known → List ℕ → ℕ → Bool
is_erased known y s = is_absent known y s || not (is_usable known.sums s (block_in known y s))

-- an erased sector is missing where it is absent or its block is its marker
unfoldable pub is_missing : Known → List ℕ → ℕ → Bool
is_missing known y s = is_absent known y s || bytes_eq (block_in known y s) (marker s)

-- and it is altered else
unfoldable pub is_altered : Known → List ℕ → ℕ → Bool
is_altered known y s = is_erased known y s && not (is_missing known y s)

-- the missing and the altered sectors, in rising order
unfoldable pub missing_sectors : Known → List ℕ → List ℕ
missing_sectors known y = filter (is_missing known y) (range_with_len 0 known.sectors)

unfoldable pub altered_sectors : Known → List ℕ → List ℕ
altered_sectors known y = filter (is_altered known y) (range_with_len 0 known.sectors)

-- how many of n sectors are gone and lie in layer l, where codewords have r parity bytes
unfoldable pub count_in : ℕ → ℕ → (ℕ → Bool) → ℕ → ℕ
count_in n r gone l = count_by (λ s. gone s && (layer_of n r s == l)) (range_with_len 0 n)

-- the same of each layer
unfoldable pub counts_of : ℕ → ℕ → (ℕ → Bool) → List ℕ
counts_of n r gone = map (count_in n r gone) (range_with_len 0 (layers_of n r))

-- a sector is erased exactly where it is missing or altered, and it is never both
abbrev pub ErasedIsMissingOrAltered : Type 0
ErasedIsMissingOrAltered = (known : Known) (y : List ℕ) (s : ℕ) → is_erased known y s ≡ (is_missing known y s || is_altered known y s)

abbrev pub MissingIsNotAltered : Type 0
MissingIsNotAltered = (known : Known) (y : List ℕ) (s : ℕ) → (is_missing known y s && is_altered known y s) ≡ false
