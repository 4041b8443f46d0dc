-- The blocks of neighbouring layers, of which the last comes first.
use Rattle.std.specs.Prelude.{ℕ, ◌≡◌, ◌+◌, ◌-◌, ◌*◌, ◌/◌, ◌<◌, nat_lt, if◌then◌else◌, List, ◌++◌, length, slice_index_or}
use Rattle.std.specs.Global.{Vec}
use Rattle.std.specs.List.{flat_map, range_with_len}
use Rattle.rs01_layers.specs.Layer.{block_at, layer_bytes}
use Rattle.rs01_lists.specs.Bytes.{part, zeros}

-- block i of a run of sectors, and zeros where the run has ended
abbrev pub in_run : List ℕ → ℕ → List ℕ
in_run run i = if nat_lt i (length run / 2048) then part run (2048 * i) 2048 else zeros 2048

-- each list got one more piece, the last list the first one
pub record AllGrow (piece : ℕ → List ℕ) (old new : List (Vec ℕ)) : Type 0 where
  pub count : length new ≡ length old
  pub each : (k : ℕ) (d : Vec ℕ) → k < length old
      → (slice_index_or new k d).items ≡ (slice_index_or old k d).items ++ piece (length old - 1 - k)

-- each list got so many bytes more
pub record AllLongerBy (n : ℕ) (old new : List (Vec ℕ)) : Type 0 where
  pub count : length new ≡ length old
  pub each : (k : ℕ) (d : Vec ℕ) → k < length old → length (slice_index_or new k d).items ≡ length (slice_index_or old k d).items + n

-- each list has so many bytes
abbrev pub AllLong : ℕ → List (Vec ℕ) → Type 0
AllLong n lists = (k : ℕ) (d : Vec ℕ) → k < length lists → length (slice_index_or lists k d).items ≡ n

-- a run holds what an image has at a place of so many neighbouring layers
abbrev pub HoldsPlace : (image : List ℕ) → (r first place count : ℕ) → (run : List ℕ) → Type 0
HoldsPlace image r first place count run = (j : ℕ) → j < count → in_run run j ≡ block_at image r (first + j) place

-- the blocks at the first places of a layer, one after the other
abbrev pub blocks_to : (image : List ℕ) → (r l places : ℕ) → List ℕ
blocks_to image r l places = flat_map (block_at image r l) (range_with_len 0 places)

-- the lists are the blocks of the layers up to `past` at the first places
abbrev pub HoldsBlocks : (image : List ℕ) → (r past places : ℕ) → List (Vec ℕ) → Type 0
HoldsBlocks image r past places lists = (k : ℕ) (d : Vec ℕ) → k < length lists
    → (slice_index_or lists k d).items ≡ blocks_to image r (past - 1 - k) places

-- and at all places
abbrev pub HoldsLayers : (image : List ℕ) → (r past : ℕ) → List (Vec ℕ) → Type 0
HoldsLayers image r past lists = (k : ℕ) (d : Vec ℕ) → k < length lists → (slice_index_or lists k d).items ≡ layer_bytes image r (past - 1 - k)
