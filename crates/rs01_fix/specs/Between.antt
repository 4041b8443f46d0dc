-- What may stand in place of an image file while it is repaired.
use Rattle.std.specs.Prelude.{ℕ, ◌≡◌, ◌<◌, ◌≤◌, ◌⊎◌, List, length, max, min, slice_index}

-- a file on the way from the old one to the fixed one: it isn't shorter nor longer than both, each byte below the old
-- length is the old one or that of the fixed one, where that has one, and each byte past it is the fixed one or zero
pub record IsBetween (old fixed file : List ℕ) : Type 0 where
  pub not_shorter : min (length old) (length fixed) ≤ length file
  pub not_longer : length file ≤ max (length old) (length fixed)
  pub below : (k : ℕ) → k < length file → k < length old
      → (slice_index file k ≡ slice_index old k) ⊎ ((k < length fixed) × (slice_index file k ≡ slice_index fixed k))
  pub past : (k : ℕ) → k < length file → length old ≤ k → (slice_index file k ≡ slice_index fixed k) ⊎ (slice_index file k ≡ 0)
