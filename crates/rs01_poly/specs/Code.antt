-- The Reed-Solomon code over the field: its roots, its generator polynomial, its codewords and the systematic
-- encoding. A codeword has 255 bytes, k = 255 - r of data and then r of parity, the coefficient of x^254 first.
-- With r = 32 the generator polynomial is that of the (255, 223) code of CCSDS 131.0-B.
use Rattle.std.specs.Prelude.{◌≡◌, ℕ, zero, suc, ◌+◌, ◌-◌, ◌*◌, ◌^◌, ◌<◌, List, [], ◌∷◌, ◌++◌, All, Contains, length, replicate, slice_index}
use Rattle.rs01_gf256.specs.Field.{power}
use Rattle.rs01_poly.specs.Polynomial.{value_at, times_linear, remainder}

-- the roots of the generator polynomial: the powers of 2^11 from the 112th on
unfoldable pub root : ℕ → ℕ
root j = power 2 (11 * (112 + j))

-- the generator polynomial, the product of x + root j for all j below r
unfoldable pub generator : ℕ → List ℕ
generator zero = 1 ∷ []
generator (suc r) = times_linear (generator r) (root r)

-- the coefficients below the leading one
abbrev pub lower : List ℕ → List ℕ
lower [] = []
lower (x ∷ p) = p

-- syndrome j of the word c: the value of its polynomial at root j
abbrev pub syndrome : List ℕ → ℕ → ℕ
syndrome c j = value_at c (root j)

-- the polynomial c is zero at the first n roots
abbrev pub VanishesAtRoots : List ℕ → ℕ → Type 0
VanishesAtRoots c n = (j : ℕ) → j < n → syndrome c j ≡ 0

-- a codeword with r parity bytes: 255 bytes whose polynomial is zero at the first r roots
pub record IsCodeword (c : List ℕ) (r : ℕ) : Type 0 where
  pub whole : length c ≡ 255
  pub bytes : All (λ b. b < 2 ^ 8) c
  pub vanishes : VanishesAtRoots c r

-- the byte of c is zero at each place that is not among these places
abbrev pub IsZeroOutside : List ℕ → List ℕ → Type 0
IsZeroOutside c places = (p : ℕ) → (Contains places p → ⊥) → slice_index c p ≡ 0

-- c and w have the same byte at each place that is not among these places
abbrev pub AgreeOutside : List ℕ → List ℕ → List ℕ → Type 0
AgreeOutside c w places = (p : ℕ) → (Contains places p → ⊥) → slice_index c p ≡ slice_index w p

-- the parity of the data d, r = 255 - length d bytes, the highest coefficient first: what d(x) * x^r leaves
-- when it is divided by the generator polynomial of r roots
unfoldable pub encode : List ℕ → List ℕ
encode d = let r = 255 - length d in remainder (length d) (lower (generator r)) (d ++ replicate r 0)
