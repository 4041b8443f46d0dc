-- Which lanes of a bank, and which words of a layer, are codewords.
use Rattle.std.specs.Prelude.{◌≡◌, ℕ, ◌+◌, ◌*◌, ◌<◌, ◌≤◌, List, length}
use Rattle.rs01_poly.specs.Code.{IsCodeword}
use Rattle.rs01_columns.specs.Bank.{lane}
use Rattle.rs01_columns.specs.Layer.{word_at}

-- a bank with r columns behind those of the word
pub record HasValueColumns (r : ℕ) (bank : List ℕ) : Type 0 where
  pub few : r ≤ 100
  pub room : 1088 * (255 + r) ≤ length bank

-- lane l is 0 in the r columns behind the word
abbrev pub IsZeroLane : List ℕ → ℕ → ℕ → Type 0
IsZeroLane bank l r = (j : ℕ) → j < r → lane bank l (255 + j) ≡ 0

-- so are the first n lanes
abbrev pub AreZeroLanes : List ℕ → ℕ → ℕ → Type 0
AreZeroLanes bank n r = (l : ℕ) → l < n → IsZeroLane bank l r

-- of the words from `first` on, of which there are `limit`, n are codewords before the first that is none
pub record CountsCodewords (r : ℕ) (blocks parity : List ℕ) (first limit n : ℕ) : Type 0 where
  pub most : n ≤ limit
  pub codewords : (b : ℕ) → b < n → IsCodeword (word_at r blocks parity (first + b)) r
  pub next : n < limit → IsCodeword (word_at r blocks parity (first + n)) r → ⊥
