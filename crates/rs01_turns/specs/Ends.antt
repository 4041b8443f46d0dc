-- What holds at the end of a reading that goes on from any moment.
use Rattle.std.specs.Prelude.{ℕ, ◌≡◌, ◌==◌, ◌≤◌, ◌++◌, false, List, Option, Some, None, length, slice_get}
use Rattle.std.specs.List.{count_by}
use Rattle.rs01_outside.specs.DriveView.{DriveView}
use Rattle.rs01_states.specs.Sparing.{IsUnread, is_unread, state_of}
use Rattle.rs01_states.specs.declared.state.State.{State}
use Rattle.rs01_states.specs.declared.state.State.TheVariants.{Failed, Good, Spared}
use Rattle.rs01_linear.specs.Asking.{Asking, kind_of}
use Rattle.rs01_linear.specs.declared.asking.Asked.{Asked}
use Rattle.rs01_linear.specs.declared.asking.Asked.TheVariants.{Altered, Read, Unreadable}
use Rattle.rs01_turns.specs.Turns.{NoneUnread, Reading, Terms, asking_for, rest}

-- what an answer makes of its sector
abbrev pub state_by : Asked → State
state_by Read = Good
state_by Unreadable = Failed
state_by Altered = Failed

-- what becomes of a sector that is unread: what the answer makes of it, and spared where it isn't asked for
abbrev pub IsStateBy : Option Asking → State → Type 0
IsStateBy None state = state ≡ Spared
IsStateBy (Some asking) state = state ≡ state_by (kind_of asking)

abbrev pub UnreadEnds : Type 0
UnreadEnds = (terms : Terms) (now : Reading) (s : ℕ) → IsUnread now.states s → IsStateBy (asking_for terms now s) (state_of (rest terms now).states s)

-- a sector isn't asked for, and stays as it is
pub record IsLeft (terms : Terms) (now : Reading) (s : ℕ) : Type 0 where
  pub unasked : asking_for terms now s ≡ None
  pub same : state_of (rest terms now).states s ≡ state_of now.states s

-- so is one that isn't unread
abbrev pub OthersAreLeft : Type 0
OthersAreLeft = (terms : Terms) (now : Reading) (s : ℕ) → is_unread (state_of now.states s) ≡ false → IsLeft terms now s

-- no sector is unread at the end, and there are as many as before
pub record IsOver (terms : Terms) (now : Reading) : Type 0 where
  pub none : NoneUnread (rest terms now).states
  pub all : length (rest terms now).states ≡ length now.states
  pub drives : length (rest terms now).views ≡ length now.views

abbrev pub EndsAll : Type 0
EndsAll = (terms : Terms) (now : Reading) → IsOver terms now

-- how often a number stands in a list
abbrev pub times_of : ℕ → List ℕ → ℕ
times_of s numbers = count_by (λ k. k == s) numbers

-- a drive is asked for more sectors, and for each so many times at most as is set, or never where it isn't asked for
pub record AskedOn (terms : Terms) (now : Reading) (one other : DriveView) : Type 0 where
  pub more : List ℕ
  pub asked : other.asked ≡ one.asked ++ more
  pub few : (s : ℕ) → times_of s more ≤ terms.tries
  pub unasked : (s : ℕ) → asking_for terms now s ≡ None → times_of s more ≡ 0

-- each drive at the end, by its number
abbrev pub AsksFew : Type 0
AsksFew =
    (terms : Terms) (now : Reading) (k : ℕ) (one other : DriveView) → slice_get now.views k ≡ Some one
    → slice_get (rest terms now).views k ≡ Some other → AskedOn terms now one other
