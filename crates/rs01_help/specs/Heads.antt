-- What is kept of the lines that were put: the first bytes of each, up to a bound.
use Rattle.std.specs.Prelude.{ℕ, ◌+◌, ◌==◌, ◌&&◌, ◌||◌, Bool, List, [], ◌∷◌, ◌++◌, length, fold, nat_lt, if◌then◌else◌}

-- how many bytes are kept of a line, beside its end, and how many of all lines
unfoldable pub line_bound : ℕ
line_bound = 96

unfoldable pub whole_bound : ℕ
whole_bound = 2048

-- the bytes that are kept, and how many of the last line are
pub record Heads : Type 0 where
  pub bytes : List ℕ
  pub column : ℕ

-- whether a byte is kept, by how many were kept of its line
abbrev pub is_kept : ℕ → ℕ → Bool
is_kept column byte = (byte == 10) || nat_lt column line_bound

abbrev pub next_column : ℕ → ℕ → ℕ
next_column column byte = if byte == 10 then 0 else (if nat_lt column line_bound then column + 1 else column)

-- one more byte behind those that are kept, where there is room
unfoldable pub with_kept : Bool → ℕ → List ℕ → List ℕ
with_kept kept byte bytes = if kept && nat_lt (length bytes) whole_bound then bytes ++ byte ∷ [] else bytes

-- one more byte
unfoldable pub with_byte : Heads → ℕ → Heads
with_byte heads byte = record {
  bytes = with_kept (is_kept heads.column byte) byte heads.bytes;
  column = next_column heads.column byte;
}

-- more bytes, one after the other
abbrev pub with_bytes : Heads → List ℕ → Heads
with_bytes heads bytes = fold with_byte heads bytes
