-- The blocks of a layer as one list of bytes.
use Rattle.std.specs.Prelude.{ℕ, ◌*◌, ◌==◌, ◌||◌, Bool, List, map, take, drop}
use Rattle.std.specs.List.{range_with_len}

-- the k blocks of 2048 bytes that these bytes are, one after the other
unfoldable pub blocks_of : ℕ → List ℕ → List (List ℕ)
blocks_of k bytes = map (λ p. take 2048 (drop (2048 * p) bytes)) (range_with_len 0 k)

-- how many parity bytes may be given with a layer: those of 2048 codewords, or none
abbrev pub is_parity_len : ℕ → ℕ → Bool
is_parity_len n r = (n == 0) || (n == 2048 * r)
