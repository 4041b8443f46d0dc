-- Which codeword a word stands for, some of whose places are erased.
use Rattle.std.specs.Prelude.{◌≡◌, ℕ, ◌<◌, ◌≤◌, ◌==◌, ◌&&◌, ◌^◌, if◌then◌else◌, Bool, nat_lt, List, [], ◌∷◌, All, length, slice_set, Option, Some, None}
use Rattle.std.specs.List.{list_all, range_with_len}
use Rattle.std.specs.List.Sorted.{IsStrictlyIncreasing}
use Rattle.std.specs.Option.{option_or}
use Rattle.rs01_poly.specs.Polynomial.{value_at}
use Rattle.rs01_poly.specs.Code.{AgreeOutside, IsCodeword, root}

-- whether c is a codeword with r parity bytes
unfoldable pub is_codeword : List ℕ → ℕ → Bool
is_codeword c r =
    (length c == 255) && (list_all (λ b. nat_lt b (2 ^ 8)) c && list_all (λ j. value_at c (root j) == 0) (range_with_len 0 r))

-- the values of a byte
unfoldable pub byte_values : List ℕ
byte_values = range_with_len 0 256

-- the first word that f gives for one of these values
unfoldable pub first_found : (ℕ → Option (List ℕ)) → List ℕ → Option (List ℕ)
first_found f [] = None
first_found f (v ∷ vs) = option_or (f v) (first_found f vs)

-- the first codeword with r parity bytes that the word w can become by a change of the bytes at these places, or none.
-- It tries all values of all the bytes.
unfoldable pub completion : List ℕ → List ℕ → ℕ → Option (List ℕ)
completion w [] r = if is_codeword w r then Some w else None
completion w (p ∷ places) r = first_found (λ v. completion (slice_set w p v) places r) byte_values

-- places of a codeword, counted from 0, that rise
pub record ArePlaces (places : List ℕ) : Type 0 where
  pub rising : IsStrictlyIncreasing places
  pub below : All (λ p. p < 255) places

-- there are n of these places, which is more than r
abbrev pub Many : List ℕ → ℕ → ℕ → Type 0
Many places r n = (r < length places) × (n ≡ length places)

-- there are at most r of these places, and no codeword with r parity bytes has the word's bytes at the others
abbrev pub Clash : List ℕ → List ℕ → ℕ → Type 0
Clash word places r = (length places ≤ r) × (completion word places r ≡ None)

-- the new word is the old one's completion: the codeword that has its bytes outside of these places
pub record IsRestored (old new places : List ℕ) (r : ℕ) : Type 0 where
  pub completed : completion old places r ≡ Some new
  pub codeword : IsCodeword new r
  pub kept : AgreeOutside new old places
