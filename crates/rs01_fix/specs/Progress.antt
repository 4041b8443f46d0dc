-- How far the repair of an image file has come. The layers are taken in rising order, and in each its places.
use Rattle.std.specs.Prelude.{ℕ, ◌+◌, ◌*◌, ◌≡◌, ◌<◌, ◌≤◌, ◌⊎◌, Bool, IsSomeAnd, List, Option, length, max, slice_index}
use Rattle.rs01_layers.specs.Sectors.{length_of}
use Rattle.rs01_layers.specs.Layout.{layer_of, place_of}
use Rattle.rs01_layers.specs.declared.task.LayerOut.{LayerOut}
use Rattle.rs01_ecchead.specs.Erased.{image_len, known_by}
use Rattle.rs01_ecchead.specs.Opened.{Opened}
use Rattle.rs01_fix.specs.Between.{IsBetween}
use Rattle.rs01_fix.specs.Repair.{after_by, fixed_by}

-- a file in which some sectors of an image of `len` bytes in `count` sectors are as they are to be afterwards, and the
-- others are as they were. size s is the number of bytes of sector s.
pub record Holds (count len : ℕ) (size : ℕ → ℕ) (old : List ℕ) (after : ℕ → List ℕ) (Done Ahead : ℕ → Type 0) (file : List ℕ) : Type 0 where
  pub not_shorter : length old ≤ length file
  pub not_longer : length file ≤ max (length old) len
  pub done : (s j : ℕ) → s < count → Done s → j < size s → slice_index file (2048 * s + j) ≡ slice_index (after s) j
  pub reached : (s : ℕ) → s < count → Done s → 2048 * s + size s ≤ length file
  pub ahead : (s j : ℕ) → s < count → Ahead s → j < size s → slice_index file (2048 * s + j) ≡ slice_index old (2048 * s + j)
  pub surplus : (k : ℕ) → len ≤ k → slice_index file k ≡ slice_index old k

-- sector s comes before place p of layer l, or not
abbrev pub IsDone : ℕ → ℕ → ℕ → ℕ → ℕ → Type 0
IsDone n r l p s = (layer_of n r s < l) ⊎ ((layer_of n r s ≡ l) × (place_of n r s < p))

abbrev pub IsAhead : ℕ → ℕ → ℕ → ℕ → ℕ → Type 0
IsAhead n r l p s = (l < layer_of n r s) ⊎ ((layer_of n r s ≡ l) × (p ≤ place_of n r s))

-- the file where all sectors before place p of layer l are done
abbrev pub Stands : Opened → List ℕ → (ℕ → LayerOut) → ℕ → ℕ → List ℕ → Type 0
Stands c y answers l p file =
    Holds c.fields.sectors (image_len (known_by c)) (length_of c.fields.sectors c.fields.last_bytes) y (after_by c y answers)
    (IsDone c.fields.sectors c.fields.parity l p) (IsAhead c.fields.sectors c.fields.parity l p) file

-- the same of a file that may not be there
abbrev pub StandsUnder : Opened → List ℕ → (ℕ → LayerOut) → ℕ → ℕ → Option (List ℕ) → Type 0
StandsUnder c y answers l p file = IsSomeAnd file (Stands c y answers l p)

-- a file that stands after a fault: on the way from the old one to the fixed one
abbrev pub IsOnTheWay : Opened → List ℕ → (ℕ → LayerOut) → Bool → Option (List ℕ) → Type 0
IsOnTheWay c y answers cut file = IsSomeAnd file (IsBetween y (fixed_by c y answers cut))
