-- The equations that erased bytes solve. Each erased place has a locator x, and y is its byte times the 112th power of
-- the locator; then the value of a word at root j is the sum of all y * x^j, added to the value that the word has with
-- zeros at these places.
use Rattle.std.specs.Prelude.{◌≡◌, ℕ, ◌-◌, ◌*◌, ◌^◌, ◌<◌, List, [], ◌∷◌, All, length, map, slice_index, bit_xor, take}
use Rattle.rs01_gf256.specs.Field.{times, power}

-- the power of 2^11 that stands for a place of a codeword: its exponent is the number of places after it
unfoldable pub locator : ℕ → ℕ
locator p = power 2 (11 * (254 - p))

-- a word's bytes at these places, each times the 112th power of its locator
unfoldable pub weighted : List ℕ → List ℕ → List ℕ
weighted word places = map (λ p. times (slice_index word p) (power (locator p) 112)) places

-- the sum of y * x^j over the values y and the locators x
unfoldable pub power_sum : ℕ → List ℕ → List ℕ → ℕ
power_sum j [] xs = 0
power_sum j (y ∷ ys) [] = 0
power_sum j (y ∷ ys) (x ∷ xs) = bit_xor (times y (power x j)) (power_sum j ys xs)

-- entry j is the j-th power sum
abbrev pub ArePowerSums : List ℕ → List ℕ → List ℕ → Type 0
ArePowerSums sums ys xs = (j : ℕ) → j < length sums → slice_index sums j ≡ power_sum j ys xs

-- the first of these numbers, one for each locator, are values with these power sums
abbrev pub AreSolvedBy : List ℕ → List ℕ → List ℕ → Type 0
AreSolvedBy sums found xs = ArePowerSums sums (take (length xs) found) xs

-- bytes, one for each locator, with these power sums
pub record AreValues (sums ys xs : List ℕ) : Type 0 where
  pub count : length ys ≡ length xs
  pub bytes : All (λ y. y < 2 ^ 8) ys
  pub sums_are : ArePowerSums sums ys xs

-- each value is a quotient times the sum of its locator and x
abbrev pub AreQuotients : List ℕ → List ℕ → List ℕ → ℕ → Type 0
AreQuotients quotients ys xs x =
    (k : ℕ) → k < length xs → times (slice_index quotients k) (bit_xor (slice_index xs k) x) ≡ slice_index ys k

-- no two are equal
abbrev pub Differ : List ℕ → Type 0
Differ xs = (i k : ℕ) → i < k → k < length xs → slice_index xs i ≡ slice_index xs k → ⊥
