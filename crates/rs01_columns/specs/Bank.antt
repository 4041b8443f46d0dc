-- A bank: columns of 1024 bytes, each 1088 bytes behind the one before. Lane l holds byte l of each column.
use Rattle.std.specs.Prelude.{◌≡◌, ◌≢◌, ℕ, ◌+◌, ◌-◌, ◌*◌, ◌<◌, ◌≤◌, List, length, slice_index}

-- the bytes of lane l, by column
abbrev pub lane : List ℕ → ℕ → ℕ → ℕ
lane bank l j = slice_index bank (1088 * j + l)

-- the bytes of a bank of so many columns
abbrev pub IsBank : ℕ → List ℕ → Type 0
IsBank columns bank = length bank ≡ 1088 * columns

-- lane l of a bank with the columns of a word, and in it so many of these from the kth on
pub record IsInBank (bank : List ℕ) (l k count : ℕ) : Type 0 where
  pub lane : l < 1024
  pub columns : k + count ≤ 255
  pub room : 1088 * 255 ≤ length bank

-- from the kth column on lane l holds these bytes
abbrev pub LaneHolds : List ℕ → ℕ → ℕ → List ℕ → Type 0
LaneHolds bank l k bytes = (j : ℕ) → j < length bytes → lane bank l (k + j) ≡ slice_index bytes j

-- from the kth column on lane l holds the bytes from `at` on
abbrev pub LaneHoldsFrom : List ℕ → ℕ → ℕ → List ℕ → ℕ → ℕ → Type 0
LaneHoldsFrom bank l k bytes at count = (j : ℕ) → j < count → lane bank l (k + j) ≡ slice_index bytes (at + j)

-- the lanes hold the parity of 1024 codewords, of which there are r bytes each from the first one's on
abbrev pub LanesHoldParity : List ℕ → ℕ → ℕ → List ℕ → Type 0
LanesHoldParity bank r first parity =
    (l j : ℕ) → l < 1024 → j < r → lane bank l (255 - r + j) ≡ slice_index parity ((first + l) * r + j)

-- in all lanes only the columns from k to m may have changed
pub record OnlyColumns (old new : List ℕ) (k m : ℕ) : Type 0 where
  pub front : (l j : ℕ) → l < 1024 → j < k → lane new l j ≡ lane old l j
  pub behind : (l j : ℕ) → l < 1024 → m ≤ j → lane new l j ≡ lane old l j

-- and only in lane l
pub record OnlyInLane (old new : List ℕ) (l k m : ℕ) : Type 0 where
  pub columns : OnlyColumns old new k m
  pub others : (i j : ℕ) → i < 1024 → i ≢ l → lane new i j ≡ lane old i j
