-- A register of columns: r columns of 2048 bytes, one after the other. Byte l of each is the register of codeword l.
use Rattle.std.specs.Prelude.{◌≡◌, ℕ, ◌+◌, ◌*◌, ◌<◌, List, bit_xor, length, map, slice_index}
use Rattle.std.specs.List.{SameBelow, SameFrom, range_with_len}
use Rattle.rs01_gf256.specs.Field.{times}

-- the register of codeword l
unfoldable pub register : List ℕ → ℕ → ℕ → List ℕ
register columns r l = map (λ k. slice_index columns (2048 * k + l)) (range_with_len 0 r)

-- what is fed back: the bytes of a block, which stand from `at` on, each with that of the first column
abbrev pub IsFeedback : List ℕ → List ℕ → ℕ → List ℕ → Type 0
IsFeedback feedback blocks at columns =
    (l : ℕ) → l < length feedback → slice_index feedback l ≡ bit_xor (slice_index blocks (at + l)) (slice_index columns l)

-- the bytes of a range are those behind it, and all else is as before
pub record HasTaken (old new : List ℕ) (at width : ℕ) : Type 0 where
  pub here : (m : ℕ) → m < width → slice_index new (at + m) ≡ slice_index old (at + width + m)
  pub before : SameBelow old new at
  pub after : SameFrom old new (at + width)

-- a multiple of the feedback is added to column k, and all else is as before
pub record HasAdded (old new : List ℕ) (k : ℕ) (feedback : List ℕ) (factor : ℕ) : Type 0 where
  pub here : (l : ℕ) → l < 2048
      → slice_index new (2048 * k + l) ≡ bit_xor (slice_index old (2048 * k + l)) (times factor (slice_index feedback l))
  pub before : SameBelow old new (2048 * k)
  pub after : SameFrom old new (2048 * k + 2048)

-- each column is the one behind it, with the feedback's multiple of the generator polynomial
abbrev pub AreShifted : List ℕ → List ℕ → List ℕ → List ℕ → Type 0
AreShifted old new low feedback =
    (k l : ℕ) → k < length low → l < 2048
    → slice_index new (2048 * k + l) ≡ bit_xor (slice_index old (2048 * (k + 1) + l)) (times (slice_index low k) (slice_index feedback l))

-- codeword b's byte of each of the r columns, one after the other from `at` on
abbrev pub HoldsRow : List ℕ → ℕ → List ℕ → ℕ → ℕ → Type 0
HoldsRow parity at columns b r = (j : ℕ) → j < r → slice_index parity (at + j) ≡ slice_index columns (2048 * j + b)

-- those of the first n codewords
abbrev pub HoldsRows : List ℕ → List ℕ → ℕ → ℕ → Type 0
HoldsRows parity columns r n = (b : ℕ) → b < n → HoldsRow parity (b * r) columns b r
