-- What a column program gives of a word, and that the unit words tell it.
use Rattle.std.specs.Prelude.{◌≡◌, ℕ, ◌+◌, ◌-◌, ◌<◌, ◌≤◌, ◌^◌, List, ◌∷◌, ◌++◌, All, length, replicate, slice_index}
use Rattle.rs01_poly.specs.Code.{encode, root}
use Rattle.rs01_poly.specs.Polynomial.{value_at}
use Rattle.rs01_columns.specs.Bank.{lane}
use Rattle.rs01_columns.specs.Program.{meaning}
use Rattle.rs01_columns.specs.declared.program.Step.{Step}

-- the columns before the program: the word first, then zeros
abbrev pub start : List ℕ → ℕ → ℕ
start d k = slice_index d k

-- the word of n bytes that is 1 at place i and 0 elsewhere
abbrev pub unit_word : ℕ → ℕ → List ℕ
unit_word n i = replicate i 0 ++ 1 ∷ replicate (n - (i + 1)) 0

-- the word d leaves f d in the m columns from `at` on
abbrev pub LeavesFor : List Step → ℕ → ℕ → (List ℕ → ℕ → ℕ) → List ℕ → Type 0
LeavesFor p at m f d = (j : ℕ) → j < m → meaning p (start d) (at + j) ≡ f d j

-- so does each word of n bytes
abbrev pub Leaves : List Step → ℕ → ℕ → ℕ → (List ℕ → ℕ → ℕ) → Type 0
Leaves p n at m f = (d : List ℕ) → length d ≡ n → All (λ b. b < 2 ^ 8) d → LeavesFor p at m f d

-- so does each unit word of n bytes
abbrev pub UnitsLeave : List Step → ℕ → ℕ → ℕ → (List ℕ → ℕ → ℕ) → Type 0
UnitsLeave p n at m f = (i : ℕ) → i < n → LeavesFor p at m f (unit_word n i)

-- each lane holds the columns before the program of a word
abbrev pub LanesHold : List ℕ → (ℕ → List ℕ) → Type 0
LanesHold bank word = (l : ℕ) → l < 1024 → (j : ℕ) → lane bank l j ≡ start (word l) j

-- the lane of a unit word of n bytes holds f of it in the m columns from `at` on
abbrev pub UnitLaneHolds : List ℕ → ℕ → ℕ → ℕ → (List ℕ → ℕ → ℕ) → ℕ → Type 0
UnitLaneHolds bank n at m f i = (j : ℕ) → j < m → lane bank i (at + j) ≡ f (unit_word n i) j

-- so do those of all unit words
abbrev pub UnitLanesHold : List ℕ → ℕ → ℕ → ℕ → (List ℕ → ℕ → ℕ) → Type 0
UnitLanesHold bank n at m f = (i : ℕ) → i < n → UnitLaneHolds bank n at m f i

-- each of the first n lanes holds what the program makes of the columns of a unit word of n bytes
abbrev pub HoldUnitsAfter : List ℕ → ℕ → List Step → Type 0
HoldUnitsAfter bank n p = (i : ℕ) → i < n → (j : ℕ) → lane bank i j ≡ meaning p (start (unit_word n i)) j

-- the bytes of the parity
abbrev pub parity_bytes : List ℕ → ℕ → ℕ
parity_bytes d j = slice_index (encode d) j

-- the values at the roots
abbrev pub root_values : List ℕ → ℕ → ℕ
root_values d j = value_at d (root j)

-- data of 255 - r bytes leave their parity behind them
abbrev pub Encodes : List Step → ℕ → Type 0
Encodes p r = Leaves p (255 - r) (255 - r) r parity_bytes

-- words of 255 bytes leave their values at the first r roots behind them
abbrev pub Evaluates : List Step → ℕ → Type 0
Evaluates p r = Leaves p 255 255 r root_values

-- room for the data and for the parity of a codeword
pub record AreBuffers (r : ℕ) (d p : List ℕ) : Type 0 where
  pub few : r ≤ 100
  pub whole : length d ≡ 255 - r
  pub parity : length p ≡ r
