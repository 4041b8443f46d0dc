-- What the correction of a settled layer is given: what is read back of the files.
use Rattle.std.specs.Prelude.{ℕ, ◌≡◌, ◌-◌, ◌*◌, ◌<◌, ◌≤◌, if◌then◌else◌, Bool, IfOk, IsSome, IsSomeAnd, IsTrue, List, [], Result, length}
use Rattle.std.specs.Global.{Vec}
use Rattle.std.specs.List.{flat_map, range_with_len}
use Rattle.rs01_layers.specs.Layout.{file_size, layers_of}
use Rattle.rs01_layers.specs.declared.input.LayerInput.{LayerInput}
use Rattle.rs01_lists.specs.Bytes.{padded}
use Rattle.rs01_outside.specs.DeskState.{DeskState, InFile}
use Rattle.rs01_outside.specs.Files.{bytes_of}
use Rattle.rs01_states.specs.Sparing.{is_open, state_of}
use Rattle.rs01_ecchead.specs.Erased.{block_in, known_of}
use Rattle.rs01_ecchead.specs.Head.{fields_of}
use Rattle.rs01_ecchead.specs.Opened.{opened_as}
use Rattle.rs01_ecchead.specs.Recorded.{parity_in}
use Rattle.rs01_ecchead.specs.declared.opened.Ecc.{Ecc}
use Rattle.rs01_repair.specs.Inputs.{IsInput, block_at, flags_at, parity_at, sums_at}
use Rattle.rs01_reader.specs.Courses.{CourseSeen}
use Rattle.rs01_reader.specs.declared.setup.Setup.{Setup}

-- the number of a layer and of one of its places
pub record IsLayerOf (ecc : Ecc) (l p : ℕ) : Type 0 where
  pub layer : l < layers_of ecc.head.sectors ecc.head.parity
  pub place : p < 255 - ecc.head.parity

-- there is such a layer, and a state of each sector
pub record HasLayer (ecc : Ecc) (course : CourseSeen) (l : ℕ) : Type 0 where
  pub layer : l < layers_of ecc.head.sectors ecc.head.parity
  pub all : length course.states ≡ ecc.head.sectors

-- there is such a place of such a layer, and a state of each sector
pub record HasPlace (ecc : Ecc) (course : CourseSeen) (l p : ℕ) : Type 0 where
  pub place : IsLayerOf ecc l p
  pub all : length course.states ≡ ecc.head.sectors

-- whether a sector is left to the parity
abbrev pub is_gone : CourseSeen → ℕ → Bool
is_gone course s = is_open (state_of course.states s)

-- what is taken of a sector: the block that the image file has, and zeros where the sector isn't good
unfoldable pub kept_in : Ecc → CourseSeen → List ℕ → ℕ → List ℕ
kept_in ecc course file s = if is_gone course s then padded 2048 [] else block_in (known_of ecc) file s

-- the same at a place of a layer, and of all its places
abbrev pub kept_at : Ecc → CourseSeen → List ℕ → ℕ → ℕ → List ℕ
kept_at ecc course file l p = block_at (fields_of ecc.head) (kept_in ecc course file) l p

unfoldable pub kept_blocks : Ecc → CourseSeen → List ℕ → ℕ → List ℕ
kept_blocks ecc course file l = flat_map (kept_at ecc course file l) (range_with_len 0 (255 - ecc.head.parity))

-- the recorded parity of a layer, where the error correction file is as long as its header asks for
abbrev pub IsParityOf : Ecc → List ℕ → ℕ → List ℕ → Type 0
IsParityOf ecc file l parity =
    file_size ecc.head.sectors ecc.head.parity ≤ length file → parity ≡ parity_at (parity_in file ecc.head.sectors ecc.head.parity) l

-- where it was read, it is that of the named file
abbrev pub ReadsParity : {E : Type 0} → DeskState → List ℕ → Ecc → ℕ → Result (Vec ℕ) E → Type 0
ReadsParity desk name ecc l result = InFile desk name (λ file. IfOk result (λ parity. IsParityOf ecc file l parity.items))

-- an input of a layer by what the image file and the error correction file have
pub record IsBuilt (ecc : Ecc) (course : CourseSeen) (image name : List ℕ) (desk : DeskState) (input : LayerInput) : Type 0 where
  pub parity_count : input.parity_count ≡ ecc.head.parity
  pub erased : input.erased ≡ flags_at (fields_of ecc.head) (is_gone course) input.layer
  pub sums : input.sums ≡ sums_at (fields_of ecc.head) ecc.sums.list input.layer
  pub has_parity : length input.parity ≡ 2048 * input.parity_count
  pub told :
      IsTrue desk.tells → file_size ecc.head.sectors ecc.head.parity ≤ length (bytes_of desk.files name)
      → IsInput (opened_as ecc (bytes_of desk.files name)) (block_in (known_of ecc) (bytes_of desk.files image)) (is_gone course) input.layer input

-- there is an error correction file with this layer, its name is known, and each of its sectors has a state
pub record CanRead (setup : Setup) (course : CourseSeen) (l : ℕ) : Type 0 where
  pub layer : IsSomeAnd setup.medium.now.ecc (λ ecc. l < layers_of ecc.head.sectors ecc.head.parity)
  pub all : IsSomeAnd setup.medium.now.ecc (λ ecc. length course.states ≡ ecc.head.sectors)
  pub name : IsSome setup.ecc

-- an input of this layer by the file that was opened
pub record IsBuiltBy (setup : Setup) (course : CourseSeen) (desk : DeskState) (l : ℕ) (input : LayerInput) : Type 0 where
  pub layer : input.layer ≡ l
  pub built : IsSomeAnd setup.medium.now.ecc (λ ecc. IsSomeAnd setup.ecc (λ name. IsBuilt ecc course setup.image.now name.now desk input))
