-- A reader at a moment: which layers are settled, what is given of them, and when it may be asked.
use Rattle.std.specs.Prelude.{ℕ, ◌≡◌, ◌≢◌, ◌*◌, ◌%◌, ◌<◌, ◌≤◌, Bool, true, false, Contains, IsSomeAnd, IsTrue, List, length, Option, Some, None}
use Rattle.std.specs.Option.{option_map}
use Rattle.rs01_layers.specs.Layout.{file_size}
use Rattle.rs01_layers.specs.declared.input.LayerInput.{LayerInput}
use Rattle.rs01_layers.specs.declared.shape.Shape.{Shape}
use Rattle.rs01_outside.specs.Causes.{Rose}
use Rattle.rs01_outside.specs.DeskState.{DeskState}
use Rattle.rs01_outside.specs.Files.{bytes_of}
use Rattle.rs01_rack.specs.Rack.{RackState}
use Rattle.rs01_states.specs.Sparing.{is_open, is_unread, is_within, layer_count, state_of}
use Rattle.rs01_ecchead.specs.Erased.{block_in}
use Rattle.rs01_ecchead.specs.Head.{fields_of}
use Rattle.rs01_ecchead.specs.Opened.{opened_as}
use Rattle.rs01_ecchead.specs.declared.opened.Ecc.{Ecc}
use Rattle.rs01_repair.specs.Inputs.{IsInput, flags_at, sums_at}
use Rattle.rs01_linear.specs.Medium.{known_of}
use Rattle.rs01_turns.specs.Moments.{IsReady, Moment, Setting, image_at, known_at}
use Rattle.rs01_turns.specs.Turns.{NoneUnread}
use Rattle.rs01_reader.specs.Courses.{CourseSeen, IsSpared}
use Rattle.rs01_reader.specs.declared.setup.Setup.{Setup}
use Rattle.rs01_reader.specs.declared.stop.Stop.{Stop}
use Rattle.rs01_reader.specs.declared.stop.Stop.TheVariants.{OutOfMemory, ReadFault, WriteFault}

-- what doesn't change while a medium is read
abbrev pub setting_of : Setup → Option Shape → Setting
setting_of setup shape = record {
  terms = record { known = known_of setup.medium.now; shape = shape; tries = setup.tries };
  image = setup.image.now;
  ecc = option_map (λ name. name.now) setup.ecc;
  opened = setup.medium.now.ecc;
}

-- a moment, by its parts
abbrev pub moment : Setup → CourseSeen → RackState → DeskState → Moment
moment setup course rack desk = record {
  setting = setting_of setup course.shape;
  states = course.states;
  place = course.place;
  fates = course.fates;
  given = course.given;
  first = course.first;
  kept_reads = course.kept_reads;
  kept_writes = course.kept_writes;
  rack = rack;
  desk = desk;
}

-- the shape is that of the error correction file, and there is none without a file
abbrev pub IsShapeOf : Option Ecc → Option Shape → Type 0
IsShapeOf None None = Unit {0}
IsShapeOf None (Some shape) = ⊥
IsShapeOf (Some ecc) None = ⊥
IsShapeOf (Some ecc) (Some shape) = (shape.sectors ≡ ecc.head.sectors) × (shape.parity ≡ ecc.head.parity)

-- the file that was opened has a name, another one than the image file's
abbrev pub IsNamed : Option Ecc → Option (List ℕ) → List ℕ → Type 0
IsNamed None ecc image = Unit {0}
IsNamed (Some opened) None image = ⊥
IsNamed (Some opened) (Some ecc) image = ecc ≢ image

-- a setting by which a medium may be read
pub record IsSet (setting : Setting) : Type 0 where
  pub tries : 1 ≤ setting.terms.tries
  pub shape : IsShapeOf setting.opened setting.terms.shape
  pub named : IsNamed setting.opened setting.ecc setting.image

-- the layer is within its bound, and none of its sectors is unread, so that none changes any more
pub record Settled (m : Moment) (l : ℕ) : Type 0 where
  pub there : l < layer_count m.setting.terms.shape
  pub within : is_within m.setting.terms.shape l m.states ≡ true
  pub read : (s : ℕ) → s % layer_count m.setting.terms.shape ≡ l → is_unread (state_of m.states s) ≡ false

-- whether a sector is left to the parity
abbrev pub gone_at : Moment → ℕ → Bool
gone_at m s = is_open (state_of m.states s)

-- what the image file has of each sector
abbrev pub block_at : Moment → ℕ → List ℕ
block_at m s = block_in (known_at m) (image_at m) s

-- the error correction file is as long as its header asks for
abbrev pub HasParity : Moment → Ecc → List ℕ → Type 0
HasParity m ecc name = file_size ecc.head.sectors ecc.head.parity ≤ length (bytes_of m.desk.files name)

-- an input of a layer: a flag for each sector that isn't good, the recorded checksums, and parity; where the desk tells,
-- the blocks of the good sectors are those of the image file, and the parity is the one that the file records
pub record IsInputAt (m : Moment) (ecc : Ecc) (name : List ℕ) (input : LayerInput) : Type 0 where
  pub parity_count : input.parity_count ≡ ecc.head.parity
  pub erased : input.erased ≡ flags_at (fields_of ecc.head) (gone_at m) input.layer
  pub sums : input.sums ≡ sums_at (fields_of ecc.head) ecc.sums.list input.layer
  pub has_parity : length input.parity ≡ 2048 * input.parity_count
  pub told : IsTrue m.desk.tells → HasParity m ecc name → IsInput (opened_as ecc (bytes_of m.desk.files name)) (block_at m) (gone_at m) input.layer input

-- the same by the file that was opened, which there is
abbrev pub IsInputBy : Moment → LayerInput → Type 0
IsInputBy m input = IsSomeAnd m.setting.opened (λ ecc. IsSomeAnd m.setting.ecc (λ name. IsInputAt m ecc name input))

-- an input that was given
pub record Fits (m : Moment) (input : LayerInput) : Type 0 where
  pub settled : Settled m input.layer
  pub input_is : IsInputBy m input

-- each of the first layers that is within its bound was given
abbrev pub GivenBelow : Moment → ℕ → Type 0
GivenBelow m past =
    (l : ℕ) → l < layer_count m.setting.terms.shape → l < past → is_within m.setting.terms.shape l m.states ≡ true → Contains m.given l

-- a reader may be asked for a layer
pub record Going (m : Moment) : Type 0 where
  pub ready : IsReady m
  pub set_up : IsSet m.setting
  pub spared : IsSpared m.setting.terms.shape m.states
  pub all_given : GivenBelow m m.first
  pub given : (l : ℕ) → Contains m.given l → Settled m l × (l < m.first)
  pub reads_rise : m.kept_reads ≤ m.desk.read_faults
  pub writes_rise : m.kept_writes ≤ m.desk.write_faults

-- no layer is left: no sector is unread, and each layer within its bound was given
pub record Done (m : Moment) : Type 0 where
  pub none_unread : NoneUnread m.states
  pub all_given : GivenBelow m (layer_count m.setting.terms.shape)

-- it stopped so: of a fault the desk's count of its kind rose since the start
abbrev pub Halted : Moment → Stop → Type 0
Halted m ReadFault = Rose m.kept_reads m.desk.read_faults
Halted m WriteFault = Rose m.kept_writes m.desk.write_faults
Halted m OutOfMemory = Unit {0}
