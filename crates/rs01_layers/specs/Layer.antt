-- The data blocks of a layer, and the bytes of its codewords.
use Rattle.std.specs.Prelude.{ℕ, ◌-◌, nat_lt, if◌then◌else◌, List, [], length, map, slice_index}
use Rattle.std.specs.List.{flat_map, range_with_len}
use Rattle.rs01_layers.specs.Sectors.{sectors_of, sector}
use Rattle.rs01_lists.specs.Bytes.{padded}
use Rattle.rs01_layers.specs.Layout.{number_at}

-- the block at a place of a layer: a sector of the image, or zeros at padding
unfoldable pub block_at : List ℕ → ℕ → ℕ → ℕ → List ℕ
block_at image r l place =
    let s = number_at (sectors_of (length image)) r l place in
    if nat_lt s (sectors_of (length image)) then sector image s else padded 2048 []

-- the data blocks of layer l, by place
unfoldable pub layer : List ℕ → ℕ → ℕ → List (List ℕ)
layer image r l = map (block_at image r l) (range_with_len 0 (255 - r))

-- the same blocks, one after the other
unfoldable pub layer_bytes : List ℕ → ℕ → ℕ → List ℕ
layer_bytes image r l = flat_map (block_at image r l) (range_with_len 0 (255 - r))

-- byte b of each block: the data of codeword b
unfoldable pub column : List (List ℕ) → ℕ → List ℕ
column blocks b = map (λ bytes. slice_index bytes b) blocks
