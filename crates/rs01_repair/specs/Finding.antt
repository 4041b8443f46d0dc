-- What is said of an image file that was found with its error correction file.
use Rattle.std.specs.Prelude.{ℕ, ◌≡◌, ◌+◌, ◌-◌, ◌*◌, ◌<◌, ◌||◌, Bool, IsTrue, List, length, nat_lt, not}
use Rattle.rs01_layers.specs.Layout.{file_size, layers_of}
use Rattle.rs01_layers.specs.Sectors.{length_of}
use Rattle.rs01_layers.specs.declared.task.LayerOut.{LayerOut}
use Rattle.rs01_outside.specs.DeskState.{DeskState}
use Rattle.rs01_outside.specs.Files.{bytes_of}
use Rattle.rs01_sums.specs.Usable.{is_usable}
use Rattle.rs01_ecchead.specs.Erased.{Known, block_in, is_erased, known_of}
use Rattle.rs01_ecchead.specs.Head.{fields_of}
use Rattle.rs01_ecchead.specs.Header.{Fields}
use Rattle.rs01_ecchead.specs.Opened.{Opened}
use Rattle.rs01_ecchead.specs.Recorded.{parity_in}
use Rattle.rs01_repair.specs.Inputs.{layer_answer}
use Rattle.rs01_repair.specs.declared.found.Found.{Found}

-- the fields of the error correction file
abbrev pub fields_in : Found → Fields
fields_in found = fields_of found.ecc.head

-- the two files as they were found: the parity that is recorded of each layer's codewords, and the image file's bytes
pub record Sources (found : Found) : Type 0 where
  pub parity : ℕ → ℕ → List ℕ
  pub image : List ℕ
  pub size : length image ≡ found.size

-- what the error correction file says, with this parity
abbrev pub said_with : Found → (ℕ → ℕ → List ℕ) → Opened
said_with found parity = record { fields = fields_of found.ecc.head; sums = found.ecc.sums.list; parity = parity }

abbrev pub said : (found : Found) → Sources found → Opened
said found was = said_with found was.parity

-- whether a sector was erased
abbrev pub is_gone_in : (found : Found) → Sources found → ℕ → Bool
is_gone_in found was s = is_erased (known_of found.ecc) was.image s

-- the answer to a layer
abbrev pub answer_to : (found : Found) → Sources found → ℕ → LayerOut
answer_to found was l = layer_answer (said found was) was.image l

-- whether a file of `size` bytes ends before a sector does
abbrev pub is_past : Known → ℕ → ℕ → Bool
is_past known size s = nat_lt size (2048 * s + length_of known.sectors known.last_bytes s)

-- whether a sector with this block is taken for erased, where the file had `size` bytes once
unfoldable pub is_erased_by : Known → ℕ → ℕ → List ℕ → Bool
is_erased_by known size s block = is_past known size s || not (is_usable known.sums s block)

-- the same with the block that the file y has now
abbrev pub is_erased_now : Known → ℕ → List ℕ → ℕ → Bool
is_erased_now known size y s = is_erased_by known size s (block_in known y s)

-- the number of layers and how many places each has, that of one of them, and a place of one
abbrev pub layers_in : Found → ℕ
layers_in found = layers_of found.ecc.head.sectors found.ecc.head.parity

abbrev pub places_in : Found → ℕ
places_in found = 255 - found.ecc.head.parity

abbrev pub IsLayer : Found → ℕ → Type 0
IsLayer found l = l < layers_in found

abbrev pub IsPlace : Found → ℕ → Type 0
IsPlace found p = p < places_in found

-- the number of a layer and of one of its places
pub record IsPlaceOf (found : Found) (l p : ℕ) : Type 0 where
  pub layer : IsLayer found l
  pub place : IsPlace found p

-- the parity that an error correction file records
abbrev pub recorded_in : Found → List ℕ → ℕ → ℕ → List ℕ
recorded_in found e = parity_in e found.ecc.head.sectors found.ecc.head.parity

-- e are the bytes of the error correction file under this name, as many as its header asks for
pub record HasEcc (found : Found) (e : List ℕ) (state : DeskState) (name : List ℕ) : Type 0 where
  pub tells : IsTrue state.tells
  pub bytes : bytes_of state.files name ≡ e
  pub whole : length e ≡ file_size found.ecc.head.sectors found.ecc.head.parity
