-- What a reader that goes on keeps between two moments, f and then g.
use Rattle.std.specs.Prelude.{ℕ, [], ◌∷◌, ◌≡◌, ◌≤◌, ◌<◌, ◌-◌, ◌⊎◌, ◌++◌, Contains, IsSomeAnd, IsTrue, List, Some, drop, false, true, length, slice_get, slice_index_or, take}
use Rattle.rs01_outside.specs.Causes.{Rose}
use Rattle.rs01_outside.specs.DriveView.{DriveView}
use Rattle.rs01_outside.specs.Files.{SameElsewhere}
use Rattle.rs01_rack.specs.Rack.{AllTell, AtDrive, capped, views_of}
use Rattle.rs01_ecchead.specs.Erased.{image_len}
use Rattle.rs01_states.specs.Sparing.{layer_count, state_of}
use Rattle.rs01_states.specs.declared.state.State.{State}
use Rattle.rs01_states.specs.declared.state.State.TheVariants as state
use Rattle.rs01_linear.specs.Asking.{kind_of}
use Rattle.rs01_linear.specs.Course.{fate_of}
use Rattle.rs01_linear.specs.Lasting.{AllRoseBy, Lasts}
use Rattle.rs01_linear.specs.Report.{unread}
use Rattle.rs01_linear.specs.declared.fate.Fate.TheVariants.{Altered, Read, Unreadable}
use Rattle.rs01_turns.specs.Moments.{Moment, asking_of, asks_at_end, bytes_at, fate_at, image_at, known_at, length_at, rest_of, unread_at}

-- the rests of both are the same, and so is how they ask for each sector that is unread at both
pub record SameRest (f g : Moment) : Type 0 where
  pub end : rest_of g ≡ rest_of f
  pub asks : asks_at_end g ≡ asks_at_end f
  pub asking : (s : ℕ) → unread_at f s ≡ true → unread_at g s ≡ true → asking_of g s ≡ asking_of f s

-- a sector has the same fate and, where the desk tells, the same bytes
pub record SameAt (f g : Moment) (s : ℕ) : Type 0 where
  pub fate_same : fate_at g s ≡ fate_at f s
  pub bytes_same : IsTrue f.desk.tells → bytes_at g s ≡ bytes_at f s

-- a sector that isn't unread stays as it is
pub record Stays (f g : Moment) (s : ℕ) : Type 0 where
  pub state_same : state_of g.states s ≡ state_of f.states s
  pub same : SameAt f g s

-- each byte is the old one or the block's
abbrev pub IsBlend : (new old block : List ℕ) → Type 0
IsBlend new old block =
    (i : ℕ) → (slice_index_or new i 0 ≡ slice_index_or old i 0) ⊎ (slice_index_or new i 0 ≡ slice_index_or block i 0)

-- the sector's own bytes of a block were written, or maybe in part where the count of write faults rose
abbrev pub IsWritten : Moment → Moment → ℕ → List ℕ → Type 0
IsWritten f g s block =
    (bytes_at g s ≡ take (length_at f s) block)
    ⊎ (Rose f.desk.write_faults g.desk.write_faults × IsBlend (bytes_at g s) (bytes_at f s) (take (length_at f s) block))

-- the drives gave this block when they were asked for the sector, and it was written
pub record Has (f g : Moment) (s : ℕ) (block : List ℕ) : Type 0 where
  pub read : IsSomeAnd (asking_of f s) (λ asking. asking.read ≡ Some block)
  pub written : IsTrue f.desk.tells → IsWritten f g s block

-- an unread sector became good
pub record BecameGood (f g : Moment) (s : ℕ) : Type 0 where
  pub fate_is : fate_at g s ≡ Read
  pub told : AllTell g.rack → (block : List ℕ) × Has f g s block

-- an unread sector became failed, as the drives answered for it
pub record BecameFailed (f g : Moment) (s : ℕ) : Type 0 where
  pub fate_is : (fate_at g s ≡ Unreadable) ⊎ (fate_at g s ≡ Altered)
  pub told : AllTell g.rack → IsSomeAnd (asking_of f s) (λ asking. fate_at g s ≡ fate_of (kind_of asking))
  pub bytes_same : IsTrue f.desk.tells → bytes_at g s ≡ bytes_at f s

-- what a sector that was unread has become by now
abbrev pub Became : Moment → Moment → ℕ → State → Type 0
Became f g s state.Unread = SameAt f g s
Became f g s state.Good = BecameGood f g s
Became f g s state.Failed = BecameFailed f g s
Became f g s state.Spared = SameAt f g s

-- the image file is as long as before and the same past its last sector, and every other file is the same
pub record SameFiles (f g : Moment) : Type 0 where
  pub len : length (image_at g) ≡ length (image_at f)
  pub surplus : drop (image_len (known_at f)) (image_at g) ≡ drop (image_len (known_at f)) (image_at f)
  pub elsewhere : SameElsewhere f.setting.image f.desk.files g.desk.files

-- more layers were given, behind those before
abbrev pub GivesOn : (before after : List ℕ) → Type 0
GivesOn before after = (more : List ℕ) × (after ≡ before ++ more)

-- none stands twice in the list
abbrev pub IsOnce : List ℕ → Type 0
IsOnce [] = Unit {0}
IsOnce (l ∷ ls) = (Contains ls l → ⊥) × IsOnce ls

-- the given layers are layers of the file, and none was given twice
pub record GivenOnce (m : Moment) : Type 0 where
  pub once : IsOnce m.given
  pub there : (l : ℕ) → Contains m.given l → l < layer_count m.setting.terms.shape

-- how many sectors no drive answered for
abbrev pub unanswered : Moment → ℕ
unanswered m = unread m.fates

-- each drive was asked for more sectors or none, behind those before
abbrev pub AllAskedOn : (before after : List DriveView) → Type 0
AllAskedOn before after =
    (k : ℕ) (was is : DriveView) → slice_get before k ≡ Some was → slice_get after k ≡ Some is → (more : List ℕ) × (is.asked ≡ was.asked ++ more)

-- the same drives, none of whose counts fell; each one's rose for each sector that no drive answered for since, and where
-- they tell nothing is gone that they were asked for
pub record SameDrives (f g : Moment) : Type 0 where
  pub number : length g.rack.drives ≡ length f.rack.drives
  pub each : (k : ℕ) → AtDrive f.rack.drives g.rack.drives k Lasts
  pub asks_rise : capped f.rack.asks ≤ g.rack.asks
  pub rose : AllRoseBy (unanswered g - unanswered f) f.rack g.rack
  pub asked : AllTell g.rack → AllAskedOn (views_of f.rack) (views_of g.rack)

-- the desk tells at both moments or at neither, and none of its counts fell
pub record SameDesk (f g : Moment) : Type 0 where
  pub tells : g.desk.tells ≡ f.desk.tells
  pub reads_rise : f.desk.read_faults ≤ g.desk.read_faults
  pub writes_rise : f.desk.write_faults ≤ g.desk.write_faults
  pub files : IsTrue f.desk.tells → SameFiles f g

-- what was set when the reader was made is the same
pub record SameStart (f g : Moment) : Type 0 where
  pub setting : g.setting ≡ f.setting
  pub kept_reads : g.kept_reads ≡ f.kept_reads
  pub kept_writes : g.kept_writes ≡ f.kept_writes
  pub all : length g.states ≡ length f.states
  pub fated : length g.fates ≡ length f.fates

-- the reader went on from f to g
pub record Leads (f g : Moment) : Type 0 where
  pub start : SameStart f g
  pub drives : SameDrives f g
  pub desk : SameDesk f g
  pub rest : AllTell g.rack → SameRest f g
  pub stays : (s : ℕ) → unread_at f s ≡ false → Stays f g s
  pub became : (s : ℕ) → unread_at f s ≡ true → Became f g s (state_of g.states s)
  pub gives_on : GivesOn f.given g.given
  pub given_once : GivenOnce f → GivenOnce g
