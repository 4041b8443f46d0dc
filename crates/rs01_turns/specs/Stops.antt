-- What a reader has done between two moments, f and then g: wherever it stops, and once no sector is unread.
use Rattle.std.specs.Prelude.{ℕ, ◌≡◌, ◌⊎◌, ◌++◌, IsSomeAnd, IsTrue, List, Option, Some, length, slice_get, take, true}
use Rattle.std.specs.Option.{option_and_then, option_map_or}
use Rattle.rs01_outside.specs.Causes.{Rose}
use Rattle.rs01_outside.specs.DriveView.{DriveView}
use Rattle.rs01_rack.specs.Rack.{AllTell, views_of}
use Rattle.rs01_states.specs.Sparing.{state_of}
use Rattle.rs01_linear.specs.Asking.{Asking, kind_of}
use Rattle.rs01_linear.specs.Course.{fate_of}
use Rattle.rs01_linear.specs.declared.fate.Fate.{Fate}
use Rattle.rs01_turns.specs.Turns.{NoneUnread}
use Rattle.rs01_turns.specs.Moments.{Moment, asking_of, bytes_at, fate_at, length_at, rest_of, unread_at}
use Rattle.rs01_turns.specs.Leads.{IsBlend, Leads}
use Rattle.rs01_turns.specs.Ends.{IsStateBy}

-- from the start on a drive was asked for some first ones of the sectors that it is asked for to the end
pub record AskedPart (start sofar all : DriveView) : Type 0 where
  pub done : List ℕ
  pub more : List ℕ
  pub sofar_is : sofar.asked ≡ start.asked ++ done
  pub all_is : all.asked ≡ sofar.asked ++ more

-- the same of each drive
abbrev pub AllAskedPart : (start sofar all : List DriveView) → Type 0
AllAskedPart start sofar all =
    (k : ℕ) (was is end : DriveView) → slice_get start k ≡ Some was → slice_get sofar k ≡ Some is → slice_get all k ≡ Some end → AskedPart was is end

-- each byte of the sector is the one before or that of the block that the drives give of it
pub record IsOnTheWay (f g : Moment) (s : ℕ) : Type 0 where
  pub block : List ℕ
  pub read : IsSomeAnd (asking_of f s) (λ asking. asking.read ≡ Some block)
  pub bytes : IsBlend (bytes_at g s) (bytes_at f s) (take (length_at f s) block)

-- the drives were asked for some first sectors of the rest, and the image file's sectors are as before or on the way
pub record IsPartOf (f g : Moment) : Type 0 where
  pub number : length (views_of g.rack) ≡ length (rest_of f).views
  pub asked : AllAskedPart (views_of f.rack) (views_of g.rack) (rest_of f).views
  pub sectors : IsTrue f.desk.tells → (s : ℕ) → (bytes_at g s ≡ bytes_at f s) ⊎ IsOnTheWay f g s

abbrev pub WhereStopped : Type 0
WhereStopped = (f g : Moment) → Leads f g → AllTell g.rack → IsPartOf f g

-- what becomes of a sector by how it is asked for, and stays where it isn't
abbrev pub fate_by : Option Asking → Fate → Fate
fate_by asking before = option_map_or (λ a. fate_of (kind_of a)) asking before

-- the bytes of a sector by how it is asked for: those of its block where it was read, and else what they were
abbrev pub bytes_by : Option Asking → ℕ → List ℕ → List ℕ
bytes_by asking len before = option_map_or (λ block. take len block) (option_and_then (λ a. a.read) asking) before

-- a sector that was unread has become what asking for it gives
pub record IsDone (f g : Moment) (s : ℕ) : Type 0 where
  pub state_is : IsStateBy (asking_of f s) (state_of g.states s)
  pub fate_is : fate_at g s ≡ fate_by (asking_of f s) (fate_at f s)
  -- where no write fault rose
  pub bytes_are :
      IsTrue f.desk.tells → (Rose f.desk.write_faults g.desk.write_faults → ⊥) → bytes_at g s ≡ bytes_by (asking_of f s) (length_at f s) (bytes_at f s)

abbrev pub SectorsAreDone : Type 0
SectorsAreDone = (f g : Moment) → Leads f g → NoneUnread g.states → AllTell g.rack → (s : ℕ) → unread_at f s ≡ true → IsDone f g s
