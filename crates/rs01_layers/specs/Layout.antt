-- Where sectors and parity bytes lie: n is the number of sectors, r the number of parity bytes of a codeword.
use Rattle.std.specs.Prelude.{ℕ, ◌+◌, ◌-◌, ◌*◌, ◌/◌, ◌%◌, ◌≤◌, nat_lt, if◌then◌else◌, Option, Some, None}

-- the numbers that a shape may have
pub record IsShape (n r : ℕ) : Type 0 where
  pub some_sectors : 1 ≤ n
  pub not_too_many : n ≤ 16777215
  pub enough_parity : 8 ≤ r
  pub not_too_much : r ≤ 100

-- how many layers hold the sectors: n divided by the data bytes of a codeword, rounded up
abbrev pub layers_of : ℕ → ℕ → ℕ
layers_of n r = (n + (254 - r)) / (255 - r)

-- neighbouring sectors lie in neighbouring layers
abbrev pub layer_of : ℕ → ℕ → ℕ → ℕ
layer_of n r s = s % layers_of n r

abbrev pub place_of : ℕ → ℕ → ℕ → ℕ
place_of n r s = s / layers_of n r

-- the number that a place of a layer stands for: it is padding where no sector has that number
abbrev pub number_at : ℕ → ℕ → ℕ → ℕ → ℕ
number_at n r layer place = layer + place * layers_of n r

-- the sector at a place of a layer, or none at padding
abbrev pub sector_at : ℕ → ℕ → ℕ → ℕ → Option ℕ
sector_at n r layer place =
    if nat_lt (number_at n r layer place) n then Some (number_at n r layer place) else None

-- where the parity of a layer's codeword begins in the file: after the header and four bytes a sector
abbrev pub parity_offset : ℕ → ℕ → ℕ → ℕ → ℕ
parity_offset n r layer codeword = 4096 + 4 * n + (2048 * layer + codeword) * r

-- how many bytes the file has
abbrev pub file_size : ℕ → ℕ → ℕ
file_size n r = 4096 + 4 * n + 2048 * r * layers_of n r
