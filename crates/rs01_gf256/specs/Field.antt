-- The field of 256 elements, the residues of polynomials over bits modulo x^8 + x^7 + x^2 + x + 1.
-- A byte is a polynomial over bits: bit i is the coefficient of x^i. The sum is exclusive or, bit_xor. It is the
-- field of the Reed-Solomon code of CCSDS 131.0-B.
use Rattle.std.specs.Prelude.{ℕ, zero, suc, ◌+◌, ◌*◌, ◌/◌, ◌%◌, ◌^◌, bit_xor}

-- the product, without carries, of two polynomials over bits, of which the second has n bits
unfoldable pub product : ℕ → ℕ → ℕ → ℕ
product zero x y = 0
product (suc n) x y = bit_xor (x * (y % 2)) (2 * product n x (y / 2))

-- what a polynomial of 8 + n bits leaves when it is divided by 0x187, the highest bit first
unfoldable pub reduce : ℕ → ℕ → ℕ
reduce zero v = v
reduce (suc n) v = reduce n (bit_xor v (0x187 * 2 ^ n * (v / 2 ^ (8 + n) % 2)))

-- the product of two elements: that of two bytes has 15 bits, of which 7 are reduced
unfoldable pub times : ℕ → ℕ → ℕ
times x y = reduce 7 (product 8 x y)

-- the product of n factors x
unfoldable pub power : ℕ → ℕ → ℕ
power x zero = 1
power x (suc n) = times x (power x n)

-- the inverse of an element that is not 0: its 254th power, since its 255th power is 1
unfoldable pub inverse : ℕ → ℕ
inverse x = power x 254
