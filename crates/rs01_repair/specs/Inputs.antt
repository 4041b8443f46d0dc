-- What correcting is given of each layer, and what it answers. f are the fields of an opened error correction file, block
-- s is what there is of sector s, and gone s whether that sector is erased. l is the number of a layer, p a place.
use Rattle.std.specs.Prelude.{ℕ, ◌≡◌, ◌-◌, ◌&&◌, if◌then◌else◌, Bool, nat_lt, List, [], map, slice_index}
use Rattle.std.specs.List.{flat_map, range_with_len}
use Rattle.rs01_layers.specs.Layout.{number_at}
use Rattle.rs01_layers.specs.declared.input.LayerInput.{LayerInput}
use Rattle.rs01_layers.specs.declared.task.LayerOut.{LayerOut}
use Rattle.rs01_lists.specs.Bytes.{padded}
use Rattle.rs01_ecchead.specs.Header.{Fields}
use Rattle.rs01_ecchead.specs.Erased.{block_in, is_erased, known_by}
use Rattle.rs01_ecchead.specs.Opened.{Opened}
use Rattle.rs01_erase.specs.Correcting.{AgreeWhereErased, AgreeWhereHeld, blocks_in, correct}
use Rattle.rs01_erase.specs.LayerValue.{correct_of}

-- the number that a place stands for, which is a sector's where it is below the number of sectors
abbrev pub place_number : Fields → ℕ → ℕ → ℕ
place_number f l p = number_at f.sectors f.parity l p

-- the block at a place, zeros at padding
unfoldable pub block_at : Fields → (ℕ → List ℕ) → ℕ → ℕ → List ℕ
block_at f block l p = if nat_lt (place_number f l p) f.sectors then block (place_number f l p) else padded 2048 []

-- whether a place is erased, which its sector is then
unfoldable pub flag_at : Fields → (ℕ → Bool) → ℕ → ℕ → Bool
flag_at f gone l p = nat_lt (place_number f l p) f.sectors && gone (place_number f l p)

-- the recorded checksum of a place, 0 at padding
unfoldable pub sum_at : Fields → List ℕ → ℕ → ℕ → ℕ
sum_at f sums l p = slice_index sums (place_number f l p)

-- the same of all places of a layer
unfoldable pub blocks_at : Fields → (ℕ → List ℕ) → ℕ → List (List ℕ)
blocks_at f block l = map (block_at f block l) (range_with_len 0 (255 - f.parity))

unfoldable pub flags_at : Fields → (ℕ → Bool) → ℕ → List Bool
flags_at f gone l = map (flag_at f gone l) (range_with_len 0 (255 - f.parity))

unfoldable pub sums_at : Fields → List ℕ → ℕ → List ℕ
sums_at f sums l = map (sum_at f sums l) (range_with_len 0 (255 - f.parity))

-- the recorded parity of a layer, one codeword after the other
unfoldable pub parity_at : (ℕ → ℕ → List ℕ) → ℕ → List ℕ
parity_at parity l = flat_map (parity l) (range_with_len 0 2048)

-- what correcting gives of a layer
unfoldable pub answer_of : Opened → (ℕ → List ℕ) → (ℕ → Bool) → ℕ → LayerOut
answer_of c block gone l =
    correct_of (blocks_at c.fields block l) (flags_at c.fields gone l) (sums_at c.fields c.sums l) (parity_at c.parity l) c.fields.parity

-- the same of an image file, whose sectors are judged by what the error correction file tells
abbrev pub layer_answer : Opened → List ℕ → ℕ → LayerOut
layer_answer c y l = answer_of c (block_in (known_by c) y) (is_erased (known_by c) y) l

-- an input of a layer: the blocks of its places that aren't erased, the checksums of those that are, and the parity
pub record IsInput (c : Opened) (block : ℕ → List ℕ) (gone : ℕ → Bool) (l : ℕ) (input : LayerInput) : Type 0 where
  pub parity_count : input.parity_count ≡ c.fields.parity
  pub erased : input.erased ≡ flags_at c.fields gone l
  pub blocks : AgreeWhereHeld (flags_at c.fields gone l) (blocks_in input) (blocks_at c.fields block l)
  pub sums : AgreeWhereErased (flags_at c.fields gone l) input.sums (sums_at c.fields c.sums l)
  pub parity : input.parity ≡ parity_at c.parity l

-- correcting such an input gives the layer's answer
abbrev pub InputsAreAnswered : Type 0
InputsAreAnswered = (c : Opened) (block : ℕ → List ℕ) (gone : ℕ → Bool) (l : ℕ) (input : LayerInput)
    → IsInput c block gone l input → correct input ≡ answer_of c block gone l
