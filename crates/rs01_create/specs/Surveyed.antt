-- What is kept while the sectors of an image are seen in rising order.
use Rattle.std.specs.Prelude.{ℕ, ◌≡◌, ◌+◌, ◌-◌, ◌*◌, ◌<◌, ◌≤◌, List, find, length, min, take}
use Rattle.std.specs.Int.{to_le_bytes, w32}
use Rattle.std.specs.List.{flat_map, range_with_len}
use Rattle.std.specs.Str.{bytes_eq}
use Rattle.md5.specs.Md5.{Holds, md5}
use Rattle.md5.specs.declared.Md5.{Md5}
use Rattle.rs01_layers.specs.Extents.{IsExtentOf}
use Rattle.rs01_layers.specs.Sectors.{sector}
use Rattle.rs01_layers.specs.declared.extent.Extent.{Extent}
use Rattle.rs01_sums.specs.Crc.{crc}
use Rattle.rs01_sums.specs.Marker.{marker}
use Rattle.rs01_ecchead.specs.EccFile.{mark_sector_of}
use Rattle.rs01_ecchead.specs.Shown.{Shown, shown_in}
use Rattle.rs01_create.specs.declared.found.Gathered.{Gathered}
use Rattle.rs01_create.specs.declared.found.Noted.{Noted}
use Rattle.rs01_create.specs.declared.found.Seen.{Seen}

-- what is noted of an image once its first n sectors were seen
pub record IsNoted (image : List ℕ) (n : ℕ) (noted : Noted) : Type 0 where
  pub sums : noted.sums.items ≡ flat_map (λ s. to_le_bytes w32 (crc (sector image s))) (range_with_len 0 n)
  pub fingerprint : mark_sector_of image < n → noted.fingerprint ≡ md5 (sector image (mark_sector_of image))
  pub marked : noted.marked ≡ find (λ s. bytes_eq (sector image s) (marker s)) (range_with_len 0 n)

-- a hasher was given its first n sectors
abbrev pub IsDigested : List ℕ → ℕ → Md5 → Type 0
IsDigested image n hasher = Holds hasher (take (min (2048 * n) (length image)) image)

-- what is kept of it then
pub record Surveyed (image : List ℕ) (n : ℕ) (seen : Seen) : Type 0 where
  pub noted : IsNoted image n seen.noted
  pub held : IsDigested image n seen.hasher

-- all sectors of an image that was found to have so many bytes
abbrev pub SurveyedBy : Extent → ℕ → List ℕ → Seen → Type 0
SurveyedBy extent size image seen = size ≡ length image → IsExtentOf image extent → Surveyed image extent.sectors seen

-- bytes are the blocks of so many sectors of an image from `first` on
abbrev pub AreSectors : List ℕ → (first count : ℕ) → List ℕ → Type 0
AreSectors image first count blocks = blocks ≡ flat_map (λ k. sector image (first + k)) (range_with_len 0 count)

-- one more sector was noted, by its block
abbrev pub NotesOne : Extent → ℕ → List ℕ → (old new : Noted) → Type 0
NotesOne extent s block old new = (image : List ℕ) → IsExtentOf image extent → block ≡ sector image s → IsNoted image s old → IsNoted image (s + 1) new

-- the sectors from `first` to below `past` were noted, were put into a digest, or both, by their blocks
abbrev pub NotesOn : Extent → (first past : ℕ) → List ℕ → (old new : Noted) → Type 0
NotesOn extent first past blocks old new =
    (image : List ℕ) → IsExtentOf image extent → AreSectors image first (past - first) blocks → IsNoted image first old → IsNoted image past new

abbrev pub DigestsOn : Extent → (first past : ℕ) → List ℕ → (old new : Md5) → Type 0
DigestsOn extent first past blocks old new =
    (image : List ℕ) → IsExtentOf image extent → AreSectors image first (past - first) blocks → IsDigested image first old → IsDigested image past new

abbrev pub SeesOn : Extent → (first past : ℕ) → List ℕ → (old new : Seen) → Type 0
SeesOn extent first past blocks old new =
    (image : List ℕ) → IsExtentOf image extent → AreSectors image first (past - first) blocks → Surveyed image first old → Surveyed image past new

-- the blocks of the sectors up to below n are gathered that aren't kept yet
pub record Gathers (n : ℕ) (kept : Gathered) : Type 0 where
  pub from : kept.first ≤ n
  pub blocks : length kept.blocks.items ≡ 2048 * (n - kept.first)

-- and none once all were shown
pub record Fits (extent : Extent) (n : ℕ) (kept : Gathered) : Type 0 where
  pub gathers : Gathers n kept
  pub all : n ≡ extent.sectors → kept.first ≡ n

-- those are an image's
pub record IsGathered (image : List ℕ) (n : ℕ) (kept : Gathered) : Type 0 where
  pub seen : Surveyed image kept.first kept.seen
  pub blocks : AreSectors image kept.first (n - kept.first) kept.blocks.items

-- what was gathered became part of what is kept
abbrev pub SeesAll : Extent → ℕ → (old new : Gathered) → Type 0
SeesAll extent n old new = (image : List ℕ) → IsExtentOf image extent → IsGathered image n old → IsGathered image n new

-- what is gathered of an image that was shown, of whatever file of this extent it is
abbrev pub GatheredShown : Extent → Shown → ℕ → Gathered → Type 0
GatheredShown extent image n kept =
    (y : List ℕ) → IsExtentOf y extent → image ≡ shown_in y extent.sectors extent.last_bytes (length y) → IsGathered y n kept
