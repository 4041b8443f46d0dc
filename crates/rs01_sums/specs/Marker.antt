-- The marker of a missing sector.
use Rattle.std.specs.Prelude.{ℕ, zero, suc, ◌+◌, ◌/◌, ◌%◌, List, [], ◌∷◌, ◌++◌, codes}
use Rattle.rs01_lists.specs.Bytes.{padded}

-- the last n decimal digits of a number, with leading zeros
unfoldable pub digits : ℕ → ℕ → List ℕ
digits zero v = []
digits (suc n) v = digits n (v / 10) ++ (48 + v % 10) ∷ []

-- a fixed text, the sector's number in ten digits and a newline: 31 bytes
unfoldable pub marker_text : ℕ → List ℕ
marker_text s = codes "rs01 missing sector " ++ (digits 10 s ++ 10 ∷ [])

-- the block that stands for a sector which is missing
unfoldable pub marker : ℕ → List ℕ
marker s = padded 2048 (marker_text s)
