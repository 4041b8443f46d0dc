-- What the encoder keeps, and a step of its register.
use Rattle.std.specs.Prelude.{◌≡◌, ℕ, ◌+◌, ◌-◌, ◌≤◌, ◌++◌, List, bit_xor, replicate, slice_index}
use Rattle.rs01_gf256.specs.Field.{times}
use Rattle.rs01_poly.specs.Code.{generator, lower}

-- a number of parity bytes that the code allows, and the coefficients of its generator polynomial, with zeros after them
pub record HoldsGenerator (count : ℕ) (coefficients : List ℕ) : Type 0 where
  pub least : 8 ≤ count
  pub most : count ≤ 100
  pub held : coefficients ≡ generator count ++ replicate (100 - count) 0

-- such a number, and the coefficients of its generator polynomial below the leading one
pub record AreLower (low : List ℕ) (count : ℕ) : Type 0 where
  pub least : 8 ≤ count
  pub most : count ≤ 100
  pub held : low ≡ lower (generator count)

-- a step of the division: each entry is the next one, with the generator polynomial's multiple by what is fed back
abbrev pub IsShifted : List ℕ → List ℕ → List ℕ → ℕ → Type 0
IsShifted old new low byte =
    (k : ℕ) → slice_index new k
    ≡ bit_xor (slice_index old (k + 1)) (times (bit_xor byte (slice_index old 0)) (slice_index low k))
