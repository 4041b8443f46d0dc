-- What holds of the layout: each sector and each parity byte has one place, and the parity fills the rest of the file.
use Rattle.std.specs.Prelude.{◌≡◌, ℕ, ◌+◌, ◌-◌, ◌*◌, ◌<◌, ◌≤◌, Some}
use Rattle.rs01_layers.specs.Layout.{IsShape, layers_of, layer_of, place_of, number_at, sector_at, parity_offset, file_size}

-- a sector is found again from its layer and its place
abbrev pub PlaceDeterminesSector : Type 0
PlaceDeterminesSector = (n r s : ℕ) → IsShape n r → number_at n r (layer_of n r s) (place_of n r s) ≡ s

-- each sector's layer and place are in range, and the sector stands there
abbrev pub EachSectorHasAPlace : Type 0
EachSectorHasAPlace =
    (n r s : ℕ) → IsShape n r → s < n
    → (layer_of n r s < layers_of n r) × (place_of n r s < 255 - r) × (sector_at n r (layer_of n r s) (place_of n r s) ≡ Some s)

-- a sector stands at no other place
abbrev pub EachSectorHasOnePlace : Type 0
EachSectorHasOnePlace =
    (n r l p s : ℕ) → IsShape n r → l < layers_of n r → sector_at n r l p ≡ Some s
    → (layer_of n r s ≡ l) × (place_of n r s ≡ p) × (s < n)

-- the parity of a codeword lies behind the header and the checksums, and within the file
abbrev pub ParityIsInFile : Type 0
ParityIsInFile =
    (n r l b : ℕ) → IsShape n r → l < layers_of n r → b < 2048
    → (4096 + 4 * n ≤ parity_offset n r l b) × (parity_offset n r l b + r ≤ file_size n r)

-- two parity bytes at one offset are the same byte of the same codeword, so the parity of two codewords doesn't overlap
abbrev pub ParityStandsApart : Type 0
ParityStandsApart =
    (n r l b i l' b' i' : ℕ) → IsShape n r → b < 2048 → b' < 2048 → i < r → i' < r
    → parity_offset n r l b + i ≡ parity_offset n r l' b' + i' → (l ≡ l') × (b ≡ b') × (i ≡ i')

-- the parity byte that stands at an offset: its layer, its codeword and its place in the codeword's parity
pub record ParityByteAt (n r at : ℕ) : Type 0 where
  pub layer : ℕ
  pub codeword : ℕ
  pub place : ℕ
  pub layer_in_range : layer < layers_of n r
  pub codeword_in_range : codeword < 2048
  pub place_in_range : place < r
  pub stands_at : at ≡ parity_offset n r layer codeword + place

-- each byte of the file behind the header and the checksums is a parity byte
abbrev pub ParityFillsFile : Type 0
ParityFillsFile = (n r at : ℕ) → IsShape n r → 4096 + 4 * n ≤ at → at < file_size n r → ParityByteAt n r at
