-- What correcting gives of a layer's input, and of which parts of the input that says nothing.
use Rattle.std.specs.Prelude.{◌≡◌, ℕ, ◌-◌, ◌*◌, ◌^◌, ◌<◌, Bool, true, false, List, [], All, length, map, take, drop, slice_index, slice_index_or}
use Rattle.rs01_layers.specs.Blocks.{blocks_of}
use Rattle.rs01_layers.specs.Layer.{column}
use Rattle.rs01_layers.specs.declared.input.LayerInput.{LayerInput}
use Rattle.rs01_layers.specs.declared.lists.Placed.{Placed}
use Rattle.rs01_layers.specs.declared.task.LayerOut.{LayerOut}
use Rattle.rs01_layers.specs.declared.task.LayerOut.TheVariants.{Restored}
use Rattle.rs01_poly.specs.Code.{encode}
use Rattle.rs01_sums.specs.Crc.{crc}
use Rattle.rs01_erase.specs.LayerValue.{correct_of, erased_places, placed}

-- the blocks of an input, by place
abbrev pub blocks_in : LayerInput → List (List ℕ)
blocks_in input = blocks_of (255 - input.parity_count) input.data_

-- what correcting gives of the input
unfoldable pub correct : LayerInput → LayerOut
correct input = correct_of (blocks_in input) input.erased input.sums input.parity input.parity_count

-- the blocks agree at each place that is not erased
abbrev pub AgreeWhereHeld : List Bool → List (List ℕ) → List (List ℕ) → Type 0
AgreeWhereHeld flags one other =
    (p : ℕ) → slice_index_or flags p false ≡ false → slice_index_or one p [] ≡ slice_index_or other p []

-- the checksums agree at each erased place
abbrev pub AgreeWhereErased : List Bool → List ℕ → List ℕ → Type 0
AgreeWhereErased flags one other =
    (p : ℕ) → slice_index_or flags p false ≡ true → slice_index one p ≡ slice_index other p

-- the inputs agree in all that correcting looks at
pub record SameForCorrecting (one other : LayerInput) : Type 0 where
  pub parity_count : one.parity_count ≡ other.parity_count
  pub erased : one.erased ≡ other.erased
  pub parity : one.parity ≡ other.parity
  pub blocks : AgreeWhereHeld one.erased (blocks_in one) (blocks_in other)
  pub sums : AgreeWhereErased one.erased one.sums other.sums

-- 2048 bytes
abbrev pub IsBlock : List ℕ → Type 0
IsBlock block = (length block ≡ 2048) × All (λ b. b < 2 ^ 8) block

-- a layer is held as it was written, but for the blocks of its erased places: the parity is that of the original blocks,
-- so are the blocks of the other places, and the checksums of the erased places
pub record IsIntact (original blocks : List (List ℕ)) (flags : List Bool) (sums parity : List ℕ) (r : ℕ) : Type 0 where
  pub original_count : length original ≡ 255 - r
  pub block_count : length blocks ≡ 255 - r
  pub flag_count : length flags ≡ 255 - r
  pub original_blocks : All IsBlock original
  pub parity_is : (b : ℕ) → b < 2048 → take r (drop (b * r) parity) ≡ encode (column original b)
  pub held : AgreeWhereHeld flags blocks original
  pub sums_are : (p : ℕ) → slice_index_or flags p false ≡ true → slice_index sums p ≡ crc (slice_index_or original p [])

-- so is the input, with these as the original blocks
abbrev pub IsIntactInput : List (List ℕ) → LayerInput → Type 0
IsIntactInput original input = IsIntact original (blocks_in input) input.erased input.sums input.parity input.parity_count

-- what correcting gives where it restores the blocks of these places to the original ones
abbrev pub restored_to : List (List ℕ) → List ℕ → LayerOut
restored_to original places = Restored (placed (λ p. slice_index_or original p []) places)

-- these are exactly the erased places of the input, each with a block that has its recorded checksum
pub record FitErased (input : LayerInput) (list : List Placed) : Type 0 where
  pub places : map (λ one. one.place) list ≡ erased_places input.erased
  pub blocks : All (λ one. IsBlock one.block) list
  pub sums : All (λ one. crc one.block ≡ slice_index input.sums one.place) list
