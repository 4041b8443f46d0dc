-- Ranges of bytes: what has changed, and what hasn't.
use Rattle.std.specs.Prelude.{◌≡◌, ℕ, ◌+◌, ◌<◌, ◌≤◌, ◌⊎◌, List, bit_xor, length, slice_index}
use Rattle.rs01_gf256.specs.Field.{times}

-- before a place all is as before
abbrev pub SameBefore : List ℕ → List ℕ → ℕ → Type 0
SameBefore old new at = (k : ℕ) → k < at → slice_index new k ≡ slice_index old k

-- from a place on all is as before
abbrev pub SameFrom : List ℕ → List ℕ → ℕ → Type 0
SameFrom old new at = (k : ℕ) → at ≤ k → slice_index new k ≡ slice_index old k

-- between two places all is as before
abbrev pub SameBetween : List ℕ → List ℕ → ℕ → ℕ → Type 0
SameBetween old new from to = (k : ℕ) → from ≤ k → k < to → slice_index new k ≡ slice_index old k

-- only so many bytes from `at` on may have changed
pub record OnlyHere (old new : List ℕ) (at width : ℕ) : Type 0 where
  pub before : SameBefore old new at
  pub after : SameFrom old new (at + width)

-- two ranges of so many bytes are within a length, and lie apart
pub record FitApart (len at from width : ℕ) : Type 0 where
  pub here : at + width ≤ len
  pub there : from + width ≤ len
  pub apart : (from + width ≤ at) ⊎ (at + width ≤ from)

-- each of `width` bytes from `at` on is the old one and the multiple of the other list's byte as far behind `from`
abbrev pub IsRaised : List ℕ → List ℕ → List ℕ → ℕ → ℕ → ℕ → ℕ → Type 0
IsRaised old new other factor from at width =
    (k : ℕ) → k < width → slice_index new (at + k) ≡ bit_xor (slice_index old (at + k)) (times factor (slice_index other (from + k)))

-- each byte of a column is the old one and the multiple of the other column's
abbrev pub HasAdded : List ℕ → List ℕ → List ℕ → ℕ → Type 0
HasAdded old new other factor =
    (k : ℕ) → k < length old → slice_index new k ≡ bit_xor (slice_index old k) (times factor (slice_index other k))

-- so many bytes from `at` on are those of the other list from `from` on
abbrev pub IsCopied : List ℕ → ℕ → List ℕ → ℕ → ℕ → Type 0
IsCopied new at other from count = (k : ℕ) → k < count → slice_index new (at + k) ≡ slice_index other (from + k)
