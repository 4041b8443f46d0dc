-- Reading a medium by turns, from any moment on: which sector is asked for next, what asking for it leaves, and what comes
-- of the rest of the reading.
use Rattle.std.specs.Prelude.{ℕ, zero, suc, ◌≡◌, ◌+◌, ◌-◌, ◌/◌, ◌==◌, ◌&&◌, if◌then◌else◌, Bool, false, List, length, map, slice_set, Option, Some, None}
use Rattle.std.specs.Fn.{iterate}
use Rattle.std.specs.Option.{option_map}
use Rattle.rs01_layers.specs.declared.shape.Shape.{Shape}
use Rattle.rs01_outside.specs.DriveView.{DriveView}
use Rattle.rs01_ecchead.specs.Erased.{Known}
use Rattle.rs01_intervals.specs.Runs.{longest}
use Rattle.rs01_states.specs.Sparing.{is_unread, settled, state_of}
use Rattle.rs01_states.specs.declared.state.State.{State}
use Rattle.rs01_states.specs.declared.state.State.TheVariants.{Failed, Good}
use Rattle.rs01_linear.specs.Asking.{Asking, ask_drives, kind_of}
use Rattle.rs01_linear.specs.declared.asking.Asked.{Asked}
use Rattle.rs01_linear.specs.declared.asking.Asked.TheVariants.{Altered, Read, Unreadable}

-- what doesn't change while a medium is read: what is known of it, the shape of the error correction file, where one is
-- given, and how often a drive is asked for a sector at most
pub record Terms : Type 0 where
  pub known : Known
  pub shape : Option Shape
  pub tries : ℕ

-- a moment of a reading: the drives, each sector's state, and the sector behind the one that was read last, where none
-- failed since
pub record Reading : Type 0 where
  pub views : List DriveView
  pub states : List State
  pub place : Option ℕ

-- where a turn over a run starts, which goes from its first number to below its second: in the middle, or at the start
-- where the run is the whole medium
abbrev pub turn_start : ℕ → ℕ × ℕ → ℕ
turn_start sectors run =
    if (run.0 == 0) && (run.1 == sectors) then run.0 else run.0 + (run.1 - run.0) / 2

-- a flag for each sector, set where it is unread
abbrev pub unread_flags : List State → List Bool
unread_flags states = map is_unread states

-- where a new turn starts: over the longest run of unread sectors, and nowhere if no sector is unread
unfoldable pub new_turn : List State → Option ℕ
new_turn states = option_map (turn_start (length states)) (longest (unread_flags states))

-- the sector that is asked for next: the turn goes on at the place if the sector there is unread, and else a new one starts
unfoldable pub next_sector : List State → Option ℕ → Option ℕ
next_sector states None = new_turn states
next_sector states (Some place) =
    if is_unread (state_of states place) then Some place else new_turn states

abbrev pub next_of : Reading → Option ℕ
next_of now = next_sector now.states now.place

-- the states after an answer for a sector: good and with what needn't be read spared, or failed
unfoldable pub states_after : Option Shape → List State → ℕ → Asked → List State
states_after shape states s Read = settled shape (slice_set states s Good)
states_after shape states s Unreadable = slice_set states s Failed
states_after shape states s Altered = slice_set states s Failed

-- the place after an answer for a sector: only behind one that was read a turn goes on
unfoldable pub place_after : ℕ → Asked → Option ℕ
place_after s Read = Some (s + 1)
place_after s Unreadable = None
place_after s Altered = None

-- asking the drives for a sector at this moment
abbrev pub asking_at : Terms → Reading → ℕ → Asking
asking_at terms now s = ask_drives terms.known s terms.tries now.views

-- the moment after that asking
unfoldable pub after_ask : Terms → Reading → ℕ → Reading
after_ask terms now s =
    let asking = asking_at terms now s in
    record {
      views = asking.views;
      states = states_after terms.shape now.states s (kind_of asking);
      place = place_after s (kind_of asking);
    }

-- the moment after asking for a sector, where there is one to ask for
abbrev pub after_next : Terms → Reading → Option ℕ → Reading
after_next terms now None = now
after_next terms now (Some s) = after_ask terms now s

-- one ask, or none at the end
unfoldable pub step : Terms → Reading → Reading
step terms now = after_next terms now (next_of now)

-- the end of the reading: as many asks as there are sectors are enough
unfoldable pub rest : Terms → Reading → Reading
rest terms now = iterate (step terms) (length now.states) now

-- whether it is this sector
abbrev pub is_at : Option ℕ → ℕ → Bool
is_at None s = false
is_at (Some next) s = next == s

-- how a sector is asked for within so many asks, or none where it isn't
unfoldable pub asking_within : Terms → ℕ → Reading → ℕ → Option Asking
asking_within terms zero now s = None
asking_within terms (suc n) now s =
    if is_at (next_of now) s then Some (asking_at terms now s) else asking_within terms n (step terms now) s

-- how a sector is asked for in the rest of the reading, or none where it isn't
unfoldable pub asking_for : Terms → Reading → ℕ → Option Asking
asking_for terms now s = asking_within terms (length now.states) now s

-- no sector is unread
abbrev pub NoneUnread : List State → Type 0
NoneUnread states = (s : ℕ) → is_unread (state_of states s) ≡ false
