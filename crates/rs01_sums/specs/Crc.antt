-- The checksum CRC-32 of ISO/IEC 13239, bit by bit, with the lowest bit of each byte first.
use Rattle.std.specs.Prelude.{ℕ, zero, suc, ◌+◌, ◌*◌, ◌-◌, ◌/◌, ◌%◌, ◌==◌, if◌then◌else◌, List, [], ◌∷◌, bit_xor, slice_index}

-- n bits of a number, the lowest first
unfoldable pub bits : ℕ → ℕ → List ℕ
bits zero v = []
bits (suc n) v = v % 2 ∷ bits n (v / 2)

-- a bit: the number is shifted right by one, and where the bit shifted out differs the polynomial is added
abbrev pub after_bit : ℕ → ℕ → ℕ
after_bit state bit = if state % 2 == bit then state / 2 else bit_xor (state / 2) 0xEDB88320

unfoldable pub after_bits : ℕ → List ℕ → ℕ
after_bits state [] = state
after_bits state (bit ∷ more) = after_bits (after_bit state bit) more

-- n zero bits
unfoldable pub after_zeros : ℕ → ℕ → ℕ
after_zeros zero state = state
after_zeros (suc n) state = after_zeros n (after_bit state 0)

unfoldable pub after_bytes : ℕ → List ℕ → ℕ
after_bytes state [] = state
after_bytes state (byte ∷ more) = after_bytes (after_bits state (bits 8 byte)) more

-- the checksum of a list of bytes: the complement of the number after its last bit
unfoldable pub crc : List ℕ → ℕ
crc bytes = 0xFFFFFFFF - after_bytes 0xFFFFFFFF bytes

-- the four bytes from a place on as a number, the lowest first
abbrev pub word_at : List ℕ → ℕ → ℕ
word_at bytes i =
    ((slice_index bytes (i + 3) * 256 + slice_index bytes (i + 2)) * 256 + slice_index bytes (i + 1)) * 256 + slice_index bytes i
