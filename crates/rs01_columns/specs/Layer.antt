-- The codewords of a layer, whose blocks of 2048 bytes stand one after the other, and so does the parity of the codewords.
use Rattle.std.specs.Prelude.{◌≡◌, ℕ, ◌+◌, ◌-◌, ◌*◌, ◌<◌, ◌≤◌, List, ◌++◌, Contains, drop, length, slice_index, take}
use Rattle.rs01_layers.specs.Blocks.{blocks_of}
use Rattle.rs01_layers.specs.Layer.{column}
use Rattle.rs01_poly.specs.Code.{encode}

-- the data of codeword b
abbrev pub data_at : ℕ → List ℕ → ℕ → List ℕ
data_at r blocks b = column (blocks_of (255 - r) blocks) b

-- codeword b as it is held
abbrev pub word_at : ℕ → List ℕ → List ℕ → ℕ → List ℕ
word_at r blocks parity b = data_at r blocks b ++ take r (drop (b * r) parity)

-- the bytes are the parity of the first n codewords, one codeword after the other
abbrev pub HoldsParity : ℕ → List ℕ → List ℕ → ℕ → Type 0
HoldsParity r parity blocks n = (b j : ℕ) → b < n → j < r → slice_index parity (b * r + j) ≡ slice_index (encode (data_at r blocks b)) j

-- the blocks agree at each place that is not among these
abbrev pub SameOutside : List ℕ → List ℕ → List ℕ → Type 0
SameOutside old new places = (p b : ℕ) → b < 2048 → (Contains places p → ⊥) → slice_index new (2048 * p + b) ≡ slice_index old (2048 * p + b)

-- the blocks of the data of a layer, and the first of 1024 of its codewords
pub record ArePartBlocks (r first : ℕ) (blocks : List ℕ) : Type 0 where
  pub few : r ≤ 100
  pub within : first + 1024 ≤ 2048
  pub whole : length blocks ≡ 2048 * (255 - r)

-- the parity of a layer, and the first of 1024 of its codewords
pub record IsPartParity (r first : ℕ) (parity : List ℕ) : Type 0 where
  pub few : r ≤ 100
  pub within : first + 1024 ≤ 2048
  pub whole : length parity ≡ 2048 * r

-- both
pub record IsPart (r first : ℕ) (blocks parity : List ℕ) : Type 0 where
  pub of_data : ArePartBlocks r first blocks
  pub of_parity : IsPartParity r first parity
