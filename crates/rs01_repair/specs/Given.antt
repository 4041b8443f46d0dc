-- Layers that were read together, and what is given of each.
use Rattle.std.specs.Prelude.{ℕ, ◌≡◌, ◌+◌, ◌*◌, ◌<◌, ◌≤◌, true, false, List, length, slice_index_or}
use Rattle.rs01_layers.specs.Layout.{parity_offset}
use Rattle.rs01_layers.specs.declared.input.LayerInput.{LayerInput}
use Rattle.rs01_lists.specs.Bytes.{part}
use Rattle.rs01_outside.specs.DeskState.{DeskState}
use Rattle.rs01_outside.specs.Files.{bytes_of}
use Rattle.rs01_ecchead.specs.Erased.{block_in, known_of}
use Rattle.rs01_repair.specs.Finding.{HasEcc, IsLayer, fields_in, is_erased_now, layers_in, places_in, recorded_in, said_with}
use Rattle.rs01_repair.specs.Inputs.{IsInput, place_number}
use Rattle.rs01_repair.specs.Parts.{IsRead, IsReadFrom}
use Rattle.rs01_repair.specs.declared.batch.Batch.{Batch}
use Rattle.rs01_repair.specs.declared.found.Found.{Found}
use Rattle.rs01_repair.specs.declared.part.Part.{Part}

-- an input of one of the layers, with its parity, of which no padding is flagged
pub record IsOfShape (found : Found) (input : LayerInput) : Type 0 where
  pub layer : IsLayer found input.layer
  pub parity_count : input.parity_count ≡ found.ecc.head.parity
  pub padding : (q : ℕ) → slice_index_or input.erased q false ≡ true → place_number (fields_in found) input.layer q < found.ecc.head.sectors
  pub parity : length input.parity ≡ 2048 * input.parity_count

-- what correcting is given of its layer, where these are the bytes of the error correction file and of the image file now
abbrev pub IsInputNow : Found → (e file : List ℕ) → LayerInput → Type 0
IsInputNow found e file input =
    IsInput (said_with found (recorded_in found e)) (block_in (known_of found.ecc) file) (is_erased_now (known_of found.ecc) found.size file) input.layer input

-- both, where the files stand under these names
pub record Fits (found : Found) (image ecc : List ℕ) (state : DeskState) (input : LayerInput) : Type 0 where
  pub shape : IsOfShape found input
  pub told : (e : List ℕ) → HasEcc found e state ecc → IsInputNow found e (bytes_of state.files image) input

-- the recorded parity of so many layers from `first` on
abbrev pub IsParity : Found → List ℕ → (first count : ℕ) → List ℕ → Type 0
IsParity found e first count parity = parity ≡ part e (parity_offset found.ecc.head.sectors found.ecc.head.parity first 0) (2048 * found.ecc.head.parity * count)

-- all places of the layers of a batch were read that weren't given yet
pub record HoldsLayers (found : Found) (batch : Batch) : Type 0 where
  pub from : batch.first ≤ batch.next
  pub up_to : batch.next ≤ batch.first + length batch.parts.items
  pub layers : batch.first + length batch.parts.items ≤ layers_in found
  pub parity : length batch.parity.items ≡ 2048 * found.ecc.head.parity * length batch.parts.items
  pub read : (j : ℕ) (d : Part) → j < length batch.parts.items → batch.next ≤ batch.first + j
      → IsRead (fields_in found) (batch.first + j) (places_in found) (slice_index_or batch.parts.items j d)

-- and they are those of these files
pub record HoldsThese (found : Found) (e file : List ℕ) (batch : Batch) : Type 0 where
  pub parity : IsParity found e batch.first (length batch.parts.items) batch.parity.items
  pub read : (j : ℕ) (d : Part) → j < length batch.parts.items → batch.next ≤ batch.first + j
      → IsReadFrom found file (batch.first + j) (places_in found) (slice_index_or batch.parts.items j d)

-- a batch that may be asked for more
pub record IsReady (found : Found) (image ecc : List ℕ) (state : DeskState) (batch : Batch) : Type 0 where
  pub held : HoldsLayers found batch
  pub these : (e : List ℕ) → HasEcc found e state ecc → HoldsThese found e (bytes_of state.files image) batch

-- the next layer was given
pub record GivesNext (found : Found) (image ecc : List ℕ) (state : DeskState) (old new : Batch) (input : LayerInput) : Type 0 where
  pub layer : input.layer ≡ old.next
  pub next : new.next ≡ old.next + 1
  pub fits : Fits found image ecc state input
  pub ready : IsReady found image ecc state new

-- no layer is left
pub record HasNoNext (found : Found) (image ecc : List ℕ) (state : DeskState) (old new : Batch) : Type 0 where
  pub all : old.next ≡ layers_in found
  pub same : new.next ≡ old.next
  pub ready : IsReady found image ecc state new
