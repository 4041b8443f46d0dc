-- What is seen of a reading that is under way, and how it stands to the whole one.
use Rattle.std.specs.Prelude.{ℕ, ◌≡◌, ◌≤◌, ◌<◌, ◌+◌, ◌-◌, ◌⊎◌, if◌then◌else◌, Bool, Contains, IsSomeAnd, IsTrue, List, [], false, true, drop, length, option_to_list, slice_index_or, take, Option, Some, None}
use Rattle.std.specs.Option.{unwrap_or}
use Rattle.rs01_layers.specs.Layout.{file_size}
use Rattle.rs01_layers.specs.declared.task.LayerOut.{LayerOut}
use Rattle.rs01_sums.specs.Marker.{marker}
use Rattle.rs01_outside.specs.Causes.{Rose}
use Rattle.rs01_outside.specs.Files.{bytes_of}
use Rattle.rs01_rack.specs.Rack.{AllTell, RackState, capped, views_of}
use Rattle.rs01_outside.specs.DeskState.{DeskState}
use Rattle.rs01_ecchead.specs.Erased.{image_len, is_erased}
use Rattle.rs01_ecchead.specs.Opened.{Opened, opened_as}
use Rattle.rs01_ecchead.specs.declared.opened.Ecc.{Ecc}
use Rattle.rs01_repair.specs.Restored.{is_restored}
use Rattle.rs01_report.specs.declared.reports.Strange.{Strange}
use Rattle.rs01_states.specs.Sparing.{is_open, layer_count, state_of}
use Rattle.rs01_states.specs.declared.state.State.{State}
use Rattle.rs01_states.specs.declared.state.State.TheVariants as state
use Rattle.rs01_fix.specs.Repair.{strange_in}
use Rattle.rs01_linear.specs.Lasting.{asks_in}
use Rattle.rs01_linear.specs.Left.{marked}
use Rattle.rs01_linear.specs.Spared.{Spares}
use Rattle.rs01_linear.specs.declared.fate.Fate.{Fate}
use Rattle.rs01_linear.specs.declared.fate.Fate.TheVariants as fate
use Rattle.rs01_turns.specs.Leads.{GivenOnce, IsBlend, SameDesk, SameDrives}
use Rattle.rs01_turns.specs.Moments.{IsReady, Moment, asking_of, asks_at_end, bytes_at, fate_at, image_at, known_at, length_at, rest_of, unread_at}
use Rattle.rs01_reader.specs.Courses.{CourseSeen}
use Rattle.rs01_reader.specs.Settled.{Done, Going, IsSet, moment}
use Rattle.rs01_reader.specs.declared.setup.Setup.{Setup}
use Rattle.rs01_reader.specs.declared.stop.Stop.{Stop}
use Rattle.rs01_reader.specs.declared.stop.Stop.TheVariants as stop
use Rattle.rs01_adaptive.specs.Noting.{HasLayers, flag_of}
use Rattle.rs01_adaptive.specs.Putting.{bytes_in}
use Rattle.rs01_adaptive.specs.Whole.{Whole, asking_in, end_in, fate_in, good_block, is_lacking, known_in, restored_block, sector_left, terms_in, value_in}
use Rattle.rs01_adaptive.specs.declared.noting.Noted.{Noted}

pub record Sight : Type 0 where
  pub moment : Moment
  -- what is kept of the answers to layers
  pub noted : Noted
  -- how many layers were given since answers were last taken
  pub window : ℕ

abbrev pub sight_of : Setup → CourseSeen → RackState → DeskState → Noted → ℕ → Sight
sight_of setup course rack desk noted window = record { moment = moment setup course rack desk; noted = noted; window = window }

-- the layers whose answers were taken, and those that were given since
abbrev pub settled_layers : Sight → List ℕ
settled_layers s = take (length s.moment.given - s.window) s.moment.given

abbrev pub window_layers : Sight → List ℕ
window_layers s = drop (length s.moment.given - s.window) s.moment.given

-- what holds of every moment of a reading
pub record IsSound (s : Sight) : Type 0 where
  pub ready : IsReady s.moment
  pub set_up : IsSet s.moment.setting
  pub once : GivenOnce s.moment
  pub some_sectors : 1 ≤ (known_at s.moment).sectors
  pub some_last : 1 ≤ (known_at s.moment).last_bytes
  pub layers : HasLayers (layer_count s.moment.setting.terms.shape) s.noted
  pub window_fits : s.window ≤ length s.moment.given
  pub reads_rise : s.moment.kept_reads ≤ s.moment.desk.read_faults
  pub writes_rise : s.moment.kept_writes ≤ s.moment.desk.write_faults

-- no count of the desk's faults changed since the start
pub record IsQuiet (m : Moment) : Type 0 where
  pub reads : m.desk.read_faults ≡ m.kept_reads
  pub writes : m.desk.write_faults ≡ m.kept_writes

-- it stopped so: of a fault the count of its kind rose since the start, and the other one didn't change
abbrev pub StoppedBy : Moment → Stop → Type 0
StoppedBy m stop.ReadFault = Rose m.kept_reads m.desk.read_faults × (m.desk.write_faults ≡ m.kept_writes)
StoppedBy m stop.WriteFault = (m.desk.read_faults ≡ m.kept_reads) × Rose m.kept_writes m.desk.write_faults
StoppedBy m stop.OutOfMemory = IsQuiet m

-- it may be asked for a layer
pub record MayGoOn (s : Sight) : Type 0 where
  pub going : Going s.moment
  pub sound : IsSound s
  pub quiet : IsQuiet s.moment

-- no layer is left
pub record IsOver (s : Sight) : Type 0 where
  pub done : Done s.moment
  pub sound : IsSound s
  pub quiet : IsQuiet s.moment

-- no count of the desk's faults rose since the start
pub record NoneRose (m : Moment) : Type 0 where
  pub reads : Rose m.kept_reads m.desk.read_faults → ⊥
  pub writes : Rose m.kept_writes m.desk.write_faults → ⊥

-- the kind of fault that came since the counts were so, that of writing first, or none
abbrev pub FaultSince : (reads writes : ℕ) → DeskState → Option Stop → Type 0
FaultSince reads writes desk None = (Rose reads desk.read_faults → ⊥) × (Rose writes desk.write_faults → ⊥)
FaultSince reads writes desk (Some stop.WriteFault) = Rose writes desk.write_faults
FaultSince reads writes desk (Some stop.ReadFault) = (Rose writes desk.write_faults → ⊥) × Rose reads desk.read_faults
FaultSince reads writes desk (Some stop.OutOfMemory) = ⊥

-- all answers were taken
pub record IsFinished (s : Sight) : Type 0 where
  pub over : IsOver s
  pub window_is : s.window ≡ 0
  pub none_rose : NoneRose s.moment

-- how many layers' answers weren't taken yet
abbrev pub left_of : Sight → ℕ
left_of s = layer_count s.moment.setting.terms.shape - (length s.moment.given - s.window)

-- the flag of a layer, and why it is strange
abbrev pub flag_at : Sight → ℕ → Bool
flag_at s l = slice_index_or s.noted.restored.items l false

abbrev pub strange_at : Sight → ℕ → Option Strange
strange_at s l = slice_index_or s.noted.strange.items l None

-- layer l was corrected, and this is kept of it
pub record IsAnswered (w : Whole) (s : Sight) (l : ℕ) : Type 0 where
  pub answer : LayerOut
  pub value_is : value_in w l ≡ Some answer
  pub flag_is : flag_at s l ≡ is_restored answer
  pub strange_is : IsSomeAnd w.medium.opened (λ c. option_to_list (strange_at s l) ≡ strange_in c.fields l answer)

-- it wasn't yet
pub record IsUnanswered (s : Sight) (l : ℕ) : Type 0 where
  pub flag_is : flag_at s l ≡ false
  pub strange_is : strange_at s l ≡ None
  pub open_yet : Contains (settled_layers s) l → ⊥

-- the block that a sector has by now: the good one, else the restored one where its layer was corrected, else its marker
unfoldable pub block_so_far : Whole → Sight → ℕ → List ℕ
block_so_far w s k =
    if is_open (state_of s.moment.states k)
    then (if flag_of s.noted.restored.items k then unwrap_or (restored_block w k) (marker k) else marker k)
    else good_block w k

-- what became of a sector by now: nothing yet of one that wasn't asked for
abbrev pub fate_by : State → Fate → Fate
fate_by state.Unread last = fate.LeftOut
fate_by state.Good last = last
fate_by state.Failed last = last
fate_by state.Spared last = fate.LeftOut

-- what was opened is what the error correction file says, which is as long as its header asks for
abbrev pub IsFileOf : Option Opened → Option Ecc → List ℕ → Type 0
IsFileOf None None file = Unit {0}
IsFileOf None (Some ecc) file = ⊥
IsFileOf (Some c) None file = ⊥
IsFileOf (Some c) (Some ecc) file = (c ≡ opened_as ecc file) × (file_size ecc.head.sectors ecc.head.parity ≤ length file)

-- the bytes of the error correction file
abbrev pub file_at : Moment → List ℕ
file_at m = bytes_of m.desk.files (unwrap_or m.setting.ecc [])

-- a moment of the whole reading, whose drives' count of asks comes to this in the end
pub record Stands (w : Whole) (asks : ℕ) (s : Sight) : Type 0 where
  pub terms_are : s.moment.setting.terms ≡ terms_in w
  pub file_is : IsFileOf w.medium.opened s.moment.setting.opened (file_at s.moment)
  pub end_is : rest_of s.moment ≡ end_in w
  pub asks_are : asks_at_end s.moment ≡ asks
  pub asking : (k : ℕ) → unread_at s.moment k ≡ true → asking_of s.moment k ≡ asking_in w k
  pub last : (k : ℕ) → unread_at s.moment k ≡ false → state_of (end_in w).states k ≡ state_of s.moment.states k
  pub lacking : (k : ℕ) → k < (known_in w).sectors → is_open (state_of s.moment.states k) ≡ true → is_lacking w k ≡ true
  pub fates : (k : ℕ) → k < (known_in w).sectors → fate_at s.moment k ≡ fate_by (state_of s.moment.states k) (fate_in w k)
  -- where no write failed, each sector has its block
  pub blocks : (Rose s.moment.kept_writes s.moment.desk.write_faults → ⊥) → (k : ℕ) → k < (known_in w).sectors
      → bytes_at s.moment k ≡ take (length_at s.moment k) (block_so_far w s k)
  -- and always each byte is that of the marked file or of the one that is left
  pub mixed : (k : ℕ) → k < (known_in w).sectors
      → IsBlend (bytes_at s.moment k) (bytes_in (known_in w) (marked (known_in w) w.image) k) (sector_left w k)
  pub layers : (l : ℕ) → l < layer_count w.shape → IsAnswered w s l ⊎ IsUnanswered s l
  pub longer : length w.image ≤ length (image_at s.moment)
  pub surplus : drop (image_len (known_in w)) (image_at s.moment) ≡ drop (image_len (known_in w)) w.image

-- what is good in the file y is still there, and only sectors that weren't good may be written
pub record IsGuarded (y : List ℕ) (s : Sight) : Type 0 where
  pub file_is : Spares (known_at s.moment) y (image_at s.moment)
  pub open_only : (k : ℕ) → k < (known_at s.moment).sectors → is_open (state_of s.moment.states k) ≡ true → is_erased (known_at s.moment) y k ≡ true

-- the rack's count of asks rose by as many as the drives' lists of asks show more, up to its last value
pub record AsksRise (old new : RackState) : Type 0 where
  pub more : ℕ
  pub shown : asks_in (views_of new) ≡ asks_in (views_of old) + more
  pub counted : capped new.asks ≡ capped (old.asks + more)

-- the reading went on: from whatever moment of whatever whole reading to another one of it
pub record Along (f g : Sight) : Type 0 where
  pub setting : g.moment.setting ≡ f.moment.setting
  pub kept_reads : g.moment.kept_reads ≡ f.moment.kept_reads
  pub kept_writes : g.moment.kept_writes ≡ f.moment.kept_writes
  pub drives : SameDrives f.moment g.moment
  pub asks : AllTell g.moment.rack → AsksRise f.moment.rack g.moment.rack
  pub desk : SameDesk f.moment g.moment
  pub settled_rise : length f.moment.given - f.window ≤ length g.moment.given - g.window
  pub sound : IsSound f → IsSound g
  pub told : (w : Whole) (asks : ℕ) → IsTrue f.moment.desk.tells → AllTell g.moment.rack → Stands w asks f → Stands w asks g
  pub stays : (y : List ℕ) → IsTrue f.moment.desk.tells → IsGuarded y f → IsGuarded y g
