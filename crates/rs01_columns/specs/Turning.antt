-- Squares of sixteen by sixteen bytes, which are turned: rows become columns.
use Rattle.std.specs.Prelude.{◌≡◌, ℕ, ◌+◌, ◌*◌, ◌<◌, ◌≤◌, ◌⊎◌, List, length, slice_index}

-- v has eight lanes of a and of b from `at` on, by turns
pub record TakesTurns (a b : List ℕ) (at : ℕ) (v : List ℕ) : Type 0 where
  pub long : length v ≡ 16
  pub even : (k : ℕ) → k < 8 → slice_index v (2 * k) ≡ slice_index a (at + k)
  pub odd : (k : ℕ) → k < 8 → slice_index v (2 * k + 1) ≡ slice_index b (at + k)

-- the bytes of each half of 256, from the one at `first` to that before the nth, lie by turns
pub record AreRiffled (from into : List ℕ) (first n : ℕ) : Type 0 where
  pub even : (k : ℕ) → first ≤ k → k < n → slice_index into (2 * k) ≡ slice_index from k
  pub odd : (k : ℕ) → first ≤ k → k < n → slice_index into (2 * k + 1) ≡ slice_index from (128 + k)

-- rows have become columns
abbrev pub IsTurned : List ℕ → List ℕ → Type 0
IsTurned old new = (i k : ℕ) → i < 16 → k < 16 → slice_index new (16 * k + i) ≡ slice_index old (16 * i + k)

-- the first n rows of a square are sixteen of these bytes, from `from` on and r bytes apart
abbrev pub HasRows : List ℕ → List ℕ → ℕ → ℕ → ℕ → Type 0
HasRows square bytes from r n =
    (i k : ℕ) → i < n → k < 16 → slice_index square (16 * i + k) ≡ slice_index bytes (from + i * r + k)

-- the first n rows of a square lie in columns of a bank, from `to` on
abbrev pub RowsLie : List ℕ → ℕ → List ℕ → ℕ → Type 0
RowsLie bank to square n =
    (k i : ℕ) → k < n → i < 16 → slice_index bank (to + 1088 * k + i) ≡ slice_index square (16 * k + i)

-- only sixteen bytes of each of n columns may have changed, from `to` on
abbrev pub OnlyInRows : List ℕ → List ℕ → ℕ → ℕ → Type 0
OnlyInRows old new to n =
    (m : ℕ) → ((k : ℕ) → k < n → (m < to + 1088 * k) ⊎ (to + 1088 * k + 16 ≤ m)) → slice_index new m ≡ slice_index old m
