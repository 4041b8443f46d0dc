-- Sixteen bytes, lane by lane, and the products that are looked up.
use Rattle.std.specs.Prelude.{◌≡◌, ℕ, ◌+◌, ◌-◌, ◌*◌, ◌/◌, ◌%◌, ◌<◌, nat_lt, if◌then◌else◌, List, length, slice_index}
use Rattle.rs01_gf256.specs.Field.{times}

-- v has 16 lanes, and lane k holds f k
pub record HasLanes (v : List ℕ) (f : ℕ → ℕ) : Type 0 where
  pub long : length v ≡ 16
  pub each : (k : ℕ) → k < 16 → slice_index v k ≡ f k

-- 32 bytes for each element c: its products by the low nibbles, and then by the high ones
pub record HoldsProducts (table : List ℕ) : Type 0 where
  pub long : length table ≡ 8192
  pub low : (c n : ℕ) → c < 256 → n < 16 → slice_index table (32 * c + n) ≡ times c n
  pub high : (c n : ℕ) → c < 256 → n < 16 → slice_index table (32 * c + 16 + n) ≡ times c (16 * n)

-- the product at a place of such a table
abbrev pub product_there : ℕ → ℕ
product_there p = if nat_lt (p % 32) 16 then times (p / 32) (p % 32) else times (p / 32) (16 * (p % 32 - 16))
