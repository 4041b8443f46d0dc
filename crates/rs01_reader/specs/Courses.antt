-- How far a reading by turns has come, and what each call makes of it.
use Rattle.std.specs.Prelude.{ℕ, ◌≡◌, ◌+◌, ◌%◌, ◌^◌, ◌<◌, ◌≤◌, ◌==◌, ◌||◌, if◌then◌else◌, Bool, true, false, IfSome, List, [], length, map, slice_set, Option, Some, None}
use Rattle.std.specs.Option.{option_map}
use Rattle.rs01_intervals.specs.Maximal.{flag_at}
use Rattle.rs01_intervals.specs.Runs.{longest}
use Rattle.rs01_layers.specs.declared.shape.Shape.{Shape}
use Rattle.rs01_states.specs.Sparing.{IsUnread, Survey, at_start, is_within, layer_count, newly_within}
use Rattle.rs01_states.specs.declared.state.State.{State}
use Rattle.rs01_states.specs.declared.state.State.TheVariants.{Failed}
use Rattle.rs01_linear.specs.Course.{fate_of}
use Rattle.rs01_linear.specs.declared.asking.Asked.{Asked}
use Rattle.rs01_linear.specs.declared.asking.Asked.TheVariants.{Altered, Read, Unreadable}
use Rattle.rs01_linear.specs.declared.fate.Fate.{Fate}
use Rattle.rs01_linear.specs.declared.fate.Fate.TheVariants as fate
use Rattle.rs01_turns.specs.Turns.{place_after, states_after, turn_start, unread_flags}

pub record CourseSeen : Type 0 where
  -- the shape of the error correction file, where one is given
  pub shape : Option Shape
  pub states : List State
  -- the sector behind the one that was read last, where none failed since
  pub place : Option ℕ
  -- what became of each sector so far
  pub fates : List Fate
  -- the layers that were given, first to last
  pub given : List ℕ
  -- of the layers below, those that were within their bound at the start were given
  pub first : ℕ
  -- the desk's counts of faults at the start
  pub kept_reads : ℕ
  pub kept_writes : ℕ

-- no unread sector lies in a layer within its bound
abbrev pub IsSpared : Option Shape → List State → Type 0
IsSpared shape states = (s : ℕ) → IsUnread states s → is_within shape (s % layer_count shape) states ≡ false

-- what is kept between the calls: the flags of the unread sectors are those of the states
pub record IsWhole (shape : Option Shape) (survey : Survey) (unread : List Bool) (fates : List Fate) : Type 0 where
  pub shape_same : survey.shape ≡ shape
  pub sectors : IfSome shape (λ given. given.sectors ≡ length survey.states)
  pub flags : unread ≡ unread_flags survey.states
  pub fated : length fates ≡ length survey.states
  pub few : length survey.states < 2 ^ 32
  pub spared : IsSpared shape survey.states

-- whether a sector was found good before anything was asked for
abbrev pub is_kept : Fate → Bool
is_kept fate.Kept = true
is_kept fate.Read = false
is_kept fate.Unreadable = false
is_kept fate.Altered = false
is_kept fate.LeftOut = false

-- the start, by what was found of each sector and the desk's counts of faults
abbrev pub start_of : Option Shape → List Fate → (reads writes : ℕ) → CourseSeen
start_of shape fates reads writes = record {
  shape = shape;
  states = (at_start shape (map is_kept fates)).states;
  place = None;
  fates = fates;
  given = [];
  first = 0;
  kept_reads = reads;
  kept_writes = writes;
}

-- a sector was asked for, and this came of it
abbrev pub course_after : CourseSeen → ℕ → Asked → CourseSeen
course_after course s asked = record course {
  states = states_after course.shape course.states s asked;
  place = place_after s asked;
  fates = slice_set course.fates s (fate_of asked);
}

-- the same where it was asked for in vain
abbrev pub failed_course : CourseSeen → ℕ → Fate → CourseSeen
failed_course course s kind = record course {
  states = slice_set course.states s Failed;
  place = None;
  fates = slice_set course.fates s kind;
}

-- the layer that came within its bound by this, if one did
abbrev pub settled_after : Option Shape → ℕ → Asked → List State → List State → Option ℕ
settled_after shape s Read before after = newly_within shape s before after
settled_after shape s Unreadable before after = None
settled_after shape s Altered before after = None

-- where a new turn starts, by the flags of the unread sectors
abbrev pub turn_by : List Bool → Option ℕ
turn_by flags = option_map (turn_start (length flags)) (longest flags)

-- the place where the sector there is unread, and else where a new turn starts
abbrev pub going_on : List Bool → ℕ → Option ℕ
going_on flags place = if flag_at flags place then Some place else turn_by flags

-- whether a sector lies in a layer, which may be none
abbrev pub lies_in : Option ℕ → ℕ → ℕ → Bool
lies_in None layers s = false
lies_in (Some layer) layers s = s % layers == layer

-- the flag of a sector once sector `read` was read and a layer came within its bound by it, or none
abbrev pub flag_after : Option ℕ → (layers read : ℕ) → List Bool → ℕ → Bool
flag_after settled layers read flags s = if (s == read) || lies_in settled layers s then false else flag_at flags s

-- what taking sectors leaves unread: all but a layer's, and all but the read one and those of the layer that came within
-- its bound by it
abbrev pub TakesLayer : (layers layer : ℕ) → (old new : List Bool) → Type 0
TakesLayer layers layer old new = (s : ℕ) → flag_at new s ≡ (if s % layers == layer then false else flag_at old s)

abbrev pub TakesRead : Option ℕ → (layers read : ℕ) → (old new : List Bool) → Type 0
TakesRead settled layers read old new = (s : ℕ) → flag_at new s ≡ flag_after settled layers read old s

-- no layer from one to below another is within its bound
abbrev pub NoneWithin : Option Shape → List State → ℕ → ℕ → Type 0
NoneWithin shape states from past = (l : ℕ) → from ≤ l → l < past → is_within shape l states ≡ false

-- the layers were looked at from the first on, up to this one, which is within its bound
pub record LooksTo (old new : CourseSeen) (layer : ℕ) : Type 0 where
  pub new_is : new ≡ record old { first = layer + 1 }
  pub from : old.first ≤ layer
  pub before : NoneWithin old.shape old.states old.first layer
  pub there : layer < layer_count old.shape
  pub within : is_within old.shape layer old.states ≡ true

-- all were looked at, and none is within its bound
pub record LooksAtAll (old new : CourseSeen) : Type 0 where
  pub new_is : new ≡ record old { first = new.first }
  pub none : NoneWithin old.shape old.states old.first (layer_count old.shape)
  pub all : layer_count old.shape ≤ new.first

abbrev pub LooksOn : (old new : CourseSeen) → Option ℕ → Type 0
LooksOn old new (Some layer) = LooksTo old new layer
LooksOn old new None = LooksAtAll old new
