-- What was read of layers, place by place.
use Rattle.std.specs.Prelude.{ℕ, ◌≡◌, ◌≢◌, ◌+◌, ◌-◌, ◌*◌, ◌<◌, ◌≤◌, true, false, Bool, List, ◌++◌, length, map, min, slice_index_or}
use Rattle.std.specs.List.{flat_map, range_with_len}
use Rattle.rs01_layers.specs.Layout.{number_at}
use Rattle.rs01_lists.specs.Bytes.{part}
use Rattle.rs01_ecchead.specs.Erased.{block_in, known_of}
use Rattle.rs01_ecchead.specs.Header.{Fields}
use Rattle.rs01_ecchead.specs.Runs.{IsRun}
use Rattle.rs01_repair.specs.Finding.{fields_in, is_erased_by, is_erased_now, places_in}
use Rattle.rs01_repair.specs.Inputs.{block_at, flag_at, place_number}
use Rattle.rs01_repair.specs.declared.found.Found.{Found}
use Rattle.rs01_repair.specs.declared.part.Part.{Part}

-- block k of a run of blocks
unfoldable pub chunk : List ℕ → ℕ → List ℕ
chunk run k = part run (2048 * k) 2048

-- all layers but one are as before
abbrev pub OthersStay : ℕ → (old new : List Part) → Type 0
OthersStay at old new = (j : ℕ) (d : Part) → j ≢ at → slice_index_or new j d ≡ slice_index_or old j d

-- block k of a run is there where a place of a layer is a sector's
abbrev pub HasSector : Found → ℕ → ℕ → List ℕ → ℕ → Type 0
HasSector found l p run k = place_number (fields_in found) l p < found.ecc.head.sectors → 2048 * k + 2048 ≤ length run

-- it came behind the blocks that were there, and zeros for padding
pub record AddsPlace (found : Found) (l p : ℕ) (block : List ℕ) (old new : Part) : Type 0 where
  pub blocks : new.blocks.items ≡ old.blocks.items ++ block_at (fields_in found) (λ _. block) l p
  pub erased : new.erased.items ≡ old.erased.items

-- the blocks of p places were read, and there is a flag for each place
pub record HasBlocks (found : Found) (p : ℕ) (part : Part) : Type 0 where
  pub blocks : length part.blocks.items ≡ 2048 * p
  pub erased : length part.erased.items ≡ places_in found

-- they are those that this image file has of layer l
abbrev pub HasBlocksOf : Found → List ℕ → ℕ → ℕ → Part → Type 0
HasBlocksOf found file l p part =
    part.blocks.items ≡ flat_map (block_at (fields_in found) (block_in (known_of found.ecc) file) l) (range_with_len 0 p)

-- whether a place of layer l is erased, whose blocks are these, and the same of all its places
unfoldable pub flag_in : Found → ℕ → List ℕ → ℕ → Bool
flag_in found l blocks p = flag_at (fields_in found) (λ s. is_erased_by (known_of found.ecc) found.size s (chunk blocks p)) l p

abbrev pub judged : Found → ℕ → List ℕ → List Bool
judged found l blocks = map (flag_in found l blocks) (range_with_len 0 (places_in found))

-- a layer was judged by its blocks, which stay
pub record IsJudged (found : Found) (l : ℕ) (old new : Part) : Type 0 where
  pub blocks : new.blocks.items ≡ old.blocks.items
  pub erased : new.erased.items ≡ judged found l old.blocks.items

-- p places of layer l were read and judged, and no padding is flagged
pub record IsRead (f : Fields) (l p : ℕ) (part : Part) : Type 0 where
  pub blocks : length part.blocks.items ≡ 2048 * p
  pub erased : length part.erased.items ≡ p
  pub padding : (q : ℕ) → slice_index_or part.erased.items q false ≡ true → place_number f l q < f.sectors

-- they are those of this image file
pub record IsReadFrom (found : Found) (file : List ℕ) (l p : ℕ) (part : Part) : Type 0 where
  pub blocks : part.blocks.items ≡ flat_map (block_at (fields_in found) (block_in (known_of found.ecc) file) l) (range_with_len 0 p)
  pub erased : part.erased.items ≡ map (flag_at (fields_in found) (is_erased_now (known_of found.ecc) found.size file) l) (range_with_len 0 p)

-- the same of the layers from `first` on
abbrev pub HaveBlocks : Found → ℕ → List Part → Type 0
HaveBlocks found p parts = (j : ℕ) (d : Part) → j < length parts → HasBlocks found p (slice_index_or parts j d)

abbrev pub HaveBlocksOf : Found → List ℕ → ℕ → ℕ → List Part → Type 0
HaveBlocksOf found file first p parts = (j : ℕ) (d : Part) → j < length parts → HasBlocksOf found file (first + j) p (slice_index_or parts j d)

pub record AreJudged (found : Found) (first : ℕ) (old new : List Part) : Type 0 where
  pub len : length new ≡ length old
  pub each : (j : ℕ) (d : Part) → j < length old → IsJudged found (first + j) (slice_index_or old j d) (slice_index_or new j d)

abbrev pub AreRead : Found → ℕ → ℕ → List Part → Type 0
AreRead found first p parts = (j : ℕ) (d : Part) → j < length parts → IsRead (fields_in found) (first + j) p (slice_index_or parts j d)

abbrev pub AreReadFrom : Found → List ℕ → ℕ → ℕ → List Part → Type 0
AreReadFrom found file first p parts = (j : ℕ) (d : Part) → j < length parts → IsReadFrom found file (first + j) p (slice_index_or parts j d)

-- the sector at a place of layer `first`, if it is one
abbrev pub run_start : Found → ℕ → ℕ → ℕ
run_start found first p = number_at found.ecc.head.sectors found.ecc.head.parity first p

-- a run has a block of each sector at a place of so many layers from `first` on, which are neighbours
abbrev pub Covers : Found → ℕ → ℕ → ℕ → List ℕ → Type 0
Covers found first p count run = length run ≡ 2048 * min count (found.ecc.head.sectors - run_start found first p)

-- and these are those of this image file
abbrev pub IsRunOf : Found → List ℕ → ℕ → ℕ → List ℕ → Type 0
IsRunOf found file first p run = IsRun file found.ecc.head.sectors found.ecc.head.last_bytes (run_start found first p) run
