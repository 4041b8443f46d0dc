-- What is shown of an image.
use Rattle.std.specs.Prelude.{ℕ, ◌≡◌, ◌+◌, ◌-◌, ◌*◌, ◌/◌, ◌<◌, ◌≤◌, Bool, IsTrue, List, length, nat_le}
use Rattle.rs01_layers.specs.Sectors.{block, length_of}
use Rattle.rs01_layers.specs.declared.extent.Extent.{Extent}
use Rattle.rs01_ecchead.specs.Runs.{IsRun}

pub record Shown : Type 0 where
  -- which of its sectors are there
  pub there : ℕ → Bool
  -- how many bytes of its block are a sector's own
  pub own : ℕ → ℕ
  -- the block of a sector that is there
  pub block_of : ℕ → List ℕ

-- an image file that was found to have `size` bytes, of an image of n sectors, whose last one has `last` bytes
abbrev pub shown_in : List ℕ → ℕ → ℕ → ℕ → Shown
shown_in file n last size = record {
  there = λ s. nat_le (2048 * s + length_of n last s) size;
  own = length_of n last;
  block_of = λ s. block file s (length_of n last s);
}

-- what is shown of sector s: whether it is there, its own bytes and, where it is there, its block
pub record IsSector (image : Shown) (s : ℕ) (found : Bool) (len : ℕ) (bytes : List ℕ) : Type 0 where
  pub there : found ≡ image.there s
  pub own : len ≡ image.own s
  pub block_of : IsTrue found → bytes ≡ image.block_of s

-- a buffer has room for the sectors of an image from `first` to below `past`
pub record Spans (extent : Extent) (first past : ℕ) (run : List ℕ) : Type 0 where
  pub order : first ≤ past
  pub inside : past ≤ extent.sectors
  pub all : length run ≡ 2048 * (past - first)

-- a sector of an image is one of those of a buffer, which begins with the sector `first`
pub record IsAmong (extent : Extent) (first : ℕ) (run : List ℕ) (s : ℕ) : Type 0 where
  pub from : first ≤ s
  pub within : s < first + length run / 2048
  pub below : s < extent.sectors

-- what is kept of an image goes on from one sector to another, where a buffer is a run of its sectors
abbrev pub KeepsOn : {K : Type 0} → (Shown → ℕ → K → Type 0) → (size : ℕ) → Extent → (first : ℕ) → (run : List ℕ) → (from : ℕ) → K → (to : ℕ) → K → Type 0
KeepsOn Keeps size extent first run from old to new =
    (file : List ℕ) → IsRun file extent.sectors extent.last_bytes first run
    → Keeps (shown_in file extent.sectors extent.last_bytes size) from old
    → Keeps (shown_in file extent.sectors extent.last_bytes size) to new
