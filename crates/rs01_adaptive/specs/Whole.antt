-- The whole adaptive reading of a medium, and what it leaves: the image file, and what is told of it.
use Rattle.std.specs.Prelude.{ℕ, ◌≡◌, ◌-◌, ◌&&◌, ◌++◌, not, if◌then◌else◌, Bool, is_none, is_some, List, [], drop, filter, length, map, take, Option, Some, None}
use Rattle.std.specs.List.{flat_map, range_with_len}
use Rattle.std.specs.Option.{option_and_then, option_map_or, unwrap_or}
use Rattle.rs01_layers.specs.Layout.{layer_of, layers_of, place_of}
use Rattle.rs01_layers.specs.Sectors.{length_of}
use Rattle.rs01_layers.specs.declared.shape.Shape.{Shape}
use Rattle.rs01_layers.specs.declared.task.LayerOut.{LayerOut}
use Rattle.rs01_sums.specs.Marker.{marker}
use Rattle.rs01_outside.specs.DriveView.{DriveView}
use Rattle.rs01_ecchead.specs.Erased.{Known, block_in, image_len, is_erased}
use Rattle.rs01_ecchead.specs.Opened.{Opened}
use Rattle.rs01_report.specs.declared.reports.ReadReport.{ReadReport}
use Rattle.rs01_report.specs.declared.reports.Strange.{Strange}
use Rattle.rs01_repair.specs.Inputs.{answer_of}
use Rattle.rs01_repair.specs.Restored.{restored_at}
use Rattle.rs01_states.specs.Sparing.{at_start, is_open, is_within, state_of}
use Rattle.rs01_linear.specs.Asking.{Asking, kind_of}
use Rattle.rs01_linear.specs.Course.{fate_of}
use Rattle.rs01_linear.specs.Medium.{Found}
use Rattle.rs01_linear.specs.Report as report
use Rattle.rs01_linear.specs.declared.fate.Fate.{Fate}
use Rattle.rs01_linear.specs.declared.fate.Fate.TheVariants.{Kept, LeftOut}
use Rattle.rs01_fix.specs.Repair.{strange_in}
use Rattle.rs01_turns.specs.Turns.{Reading, Terms, asking_for, rest}

-- a reading that is asked for
pub record Whole : Type 0 where
  -- what is known of the medium, and the shape of its error correction file, where one is given
  pub medium : Found
  pub shape : Option Shape
  -- how often a drive is asked for a sector at most
  pub tries : ℕ
  -- the image file, empty where it isn't there, and the drives
  pub image : List ℕ
  pub views : List DriveView

-- a shape is that of the error correction file, and there is none without one
abbrev pub IsShapeOf : Option Opened → Option Shape → Type 0
IsShapeOf None None = Unit {0}
IsShapeOf None (Some shape) = ⊥
IsShapeOf (Some c) None = ⊥
IsShapeOf (Some c) (Some shape) = (shape.sectors ≡ c.fields.sectors) × (shape.parity ≡ c.fields.parity)

abbrev pub known_in : Whole → Known
known_in w = w.medium.known

abbrev pub terms_in : Whole → Terms
terms_in w = record { known = known_in w; shape = w.shape; tries = w.tries }

-- whether the image file lacks sector s at the start
abbrev pub is_lacking : Whole → ℕ → Bool
is_lacking w s = is_erased (known_in w) w.image s

-- the start: what the image file has is good, and what needn't be read is spared
abbrev pub good_flags : Whole → List Bool
good_flags w = map (λ s. not (is_lacking w s)) (range_with_len 0 (known_in w).sectors)

abbrev pub start_in : Whole → Reading
start_in w = record { views = w.views; states = (at_start w.shape (good_flags w)).states; place = None }

-- the end
unfoldable pub end_in : Whole → Reading
end_in w = rest (terms_in w) (start_in w)

-- whether sector s isn't good at the end
abbrev pub is_open_in : Whole → ℕ → Bool
is_open_in w s = is_open (state_of (end_in w).states s)

-- how sector s is asked for, or none where it isn't
unfoldable pub asking_in : Whole → ℕ → Option Asking
asking_in w s = asking_for (terms_in w) (start_in w) s

-- what becomes of a sector that the image file lacks
abbrev pub fate_asked : Option Asking → Fate
fate_asked asking = option_map_or (λ a. fate_of (kind_of a)) asking LeftOut

abbrev pub fate_in : Whole → ℕ → Fate
fate_in w s = if is_lacking w s then fate_asked (asking_in w s) else Kept

abbrev pub fates_in : Whole → List Fate
fates_in w = map (fate_in w) (range_with_len 0 (known_in w).sectors)

-- the block of a sector that is good at the end: what the image file has, or what was read
abbrev pub block_read : Option Asking → List ℕ
block_read asking = unwrap_or (option_and_then (λ a. a.read) asking) []

unfoldable pub good_block : Whole → ℕ → List ℕ
good_block w s = if is_lacking w s then block_read (asking_in w s) else block_in (known_in w) w.image s

-- what correcting gives of a layer by what is good at the end, where the layer is within its bound then
abbrev pub value_by : Whole → Opened → ℕ → Option LayerOut
value_by w c l =
    if is_within w.shape l (end_in w).states then Some (answer_of c (good_block w) (is_open_in w) l) else None

unfoldable pub value_in : Whole → ℕ → Option LayerOut
value_in w l = option_and_then (λ c. value_by w c l) w.medium.opened

-- the restored block of a sector, where it has one
abbrev pub block_by : Whole → Opened → ℕ → Option (List ℕ)
block_by w c s =
    option_and_then (λ answer. restored_at answer (place_of c.fields.sectors c.fields.parity s))
    (value_in w (layer_of c.fields.sectors c.fields.parity s))

unfoldable pub restored_block : Whole → ℕ → Option (List ℕ)
restored_block w s = option_and_then (λ c. block_by w c s) w.medium.opened

-- the block that is left: the good one, else the restored one, else the marker
unfoldable pub block_left : Whole → ℕ → List ℕ
block_left w s = if is_open_in w s then unwrap_or (restored_block w s) (marker s) else good_block w s

abbrev pub sector_left : Whole → ℕ → List ℕ
sector_left w s = take (length_of (known_in w).sectors (known_in w).last_bytes s) (block_left w s)

-- the image file that is left: these sectors, and the bytes that stood past the image
unfoldable pub image_left : Whole → List ℕ
image_left w = flat_map (sector_left w) (range_with_len 0 (known_in w).sectors) ++ drop (image_len (known_in w)) w.image

-- the sectors that correction put in place, and those that are neither good nor restored
abbrev pub is_restored_in : Whole → ℕ → Bool
is_restored_in w s = is_open_in w s && is_some (restored_block w s)

abbrev pub is_lost_in : Whole → ℕ → Bool
is_lost_in w s = is_open_in w s && is_none (restored_block w s)

-- the layers that were to be corrected and aren't restored, by what the error correction file says
abbrev pub strange_by : Whole → Opened → List Strange
strange_by w c =
    flat_map (λ l. option_map_or (strange_in c.fields l) (value_in w l) [])
    (range_with_len 0 (layers_of c.fields.sectors c.fields.parity))

abbrev pub strange_layers : Whole → List Strange
strange_layers w = option_map_or (strange_by w) w.medium.opened []

-- what is told, where so many asks were counted
unfoldable pub report_of : Whole → ℕ → ReadReport
report_of w asked = record (report.report_of (fates_in w) asked (length w.image - image_len (known_in w))) {
  restored = filter (is_restored_in w) (range_with_len 0 (known_in w).sectors);
  lost = filter (is_lost_in w) (range_with_len 0 (known_in w).sectors);
  strange = strange_layers w;
}
