-- The image of a demonstration: bytes that a linear congruential generator makes from a number.
use Rattle.std.specs.Prelude.{ℕ, zero, suc, ◌+◌, ◌*◌, ◌/◌, ◌%◌, ◌^◌, List, map}
use Rattle.std.specs.List.{range_with_len}

-- the value that follows a value
unfoldable pub next : ℕ → ℕ
next v = (v * 6364136223846793005 + 1442695040888963407) % 2 ^ 64

-- the value that i steps lead to from a number
unfoldable pub value_at : ℕ → ℕ → ℕ
value_at number zero = number
value_at number (suc i) = next (value_at number i)

-- byte i of the image: the eight highest bits of value i + 1
abbrev pub byte_at : ℕ → ℕ → ℕ
byte_at number i = value_at number (i + 1) / 2 ^ 56

-- n bytes from a place on
unfoldable pub stretch : ℕ → ℕ → ℕ → List ℕ
stretch number from n = map (byte_at number) (range_with_len from n)

-- an image of so many sectors
unfoldable pub image : ℕ → ℕ → List ℕ
image number sectors = stretch number 0 (2048 * sectors)
