-- Which sectors needn't be read any more: the unread ones of layers whose parity makes up for all that they lack.
use Rattle.std.specs.Prelude.{◌≡◌, ℕ, ◌-◌, ◌%◌, ◌==◌, ◌&&◌, not, nat_le, if◌then◌else◌, Bool, true, false, List, length, map, slice_index_or, slice_set, Option, Some, None}
use Rattle.std.specs.List.{range_with_len, count_by, find}
use Rattle.rs01_layers.specs.Layout.{layers_of}
use Rattle.rs01_layers.specs.declared.shape.Shape.{Shape}
use Rattle.rs01_states.specs.declared.state.State.{State}
use Rattle.rs01_states.specs.declared.state.State.TheVariants.{Unread, Good, Failed, Spared}

-- what is known of a reading: the shape of the error correction file, where there is one, and each sector's state
pub record Survey : Type 0 where
  pub shape : Option Shape
  pub states : List State

abbrev pub survey_of : Option Shape → List State → Survey
survey_of shape states = record { shape = shape; states = states }

-- the state of a sector; behind the last one nothing is left to read, so that a number there stands as good
abbrev pub state_of : List State → ℕ → State
state_of states s = slice_index_or states s Good

-- still to be asked for
abbrev pub is_unread : State → Bool
is_unread Unread = true
is_unread Good = false
is_unread Failed = false
is_unread Spared = false

-- still to be asked for, by its number
abbrev pub IsUnread : List State → ℕ → Type 0
IsUnread states s = is_unread (state_of states s) ≡ true

-- left to the parity unless it is read yet
abbrev pub is_open : State → Bool
is_open Unread = true
is_open Good = false
is_open Failed = true
is_open Spared = true

-- sector s lies in layer s % layers; whether that is layer l, and the sector isn't good
abbrev pub lacks : ℕ → ℕ → List State → ℕ → Bool
lacks layers l states s = (s % layers == l) && is_open (state_of states s)

-- how many sectors of layer l aren't good
unfoldable pub open_count : ℕ → ℕ → List State → ℕ
open_count layers l states = count_by (lacks layers l states) (range_with_len 0 (length states))

-- whether these are at most `bound`
unfoldable pub within_bound : ℕ → ℕ → ℕ → List State → Bool
within_bound layers bound l states = nat_le (open_count layers l states) bound

-- an unread sector becomes spared, where it is to be
unfoldable pub spared_where : State → Bool → State
spared_where state enough = if enough && is_unread state then Spared else state

-- what becomes of sector s
abbrev pub spared_state : ℕ → ℕ → List State → ℕ → State
spared_state layers bound states s =
    spared_where (state_of states s) (within_bound layers bound (s % layers) states)

-- the unread sectors of every layer within the bound become spared
unfoldable pub spared_all : ℕ → ℕ → List State → List State
spared_all layers bound states = map (spared_state layers bound states) (range_with_len 0 (length states))

-- how many layers there are: none without a shape
abbrev pub layer_count : Option Shape → ℕ
layer_count None = 0
layer_count (Some shape) = layers_of shape.sectors shape.parity

-- whether the parity makes up for all that layer l lacks: never without a shape
abbrev pub is_within : Option Shape → ℕ → List State → Bool
is_within None l states = false
is_within (Some shape) l states = within_bound (layers_of shape.sectors shape.parity) shape.parity l states

-- what needn't be read becomes spared: nothing without a shape
abbrev pub settled : Option Shape → List State → List State
settled None states = states
settled (Some shape) states = spared_all (layers_of shape.sectors shape.parity) shape.parity states

-- each sector as it was found, before anything is spared
abbrev pub found : List Bool → List State
found good = map (λ is_good. if is_good then Good else Unread) good

-- the start of a reading
abbrev pub at_start : Option Shape → List Bool → Survey
at_start shape good = survey_of shape (settled shape (found good))

-- sector s was read
abbrev pub after_good : Survey → ℕ → Survey
after_good survey s = survey_of survey.shape (settled survey.shape (slice_set survey.states s Good))

-- sector s was asked for in vain
abbrev pub after_failed : Survey → ℕ → Survey
after_failed survey s = survey_of survey.shape (slice_set survey.states s Failed)

-- the layer of sector s, where it is within its bound afterwards and wasn't before
abbrev pub newly_within : Option Shape → ℕ → List State → List State → Option ℕ
newly_within shape s before after =
    let l = s % layer_count shape in
    if is_within shape l after && not (is_within shape l before) then Some l else None

-- the first unread sector from a number on
abbrev pub next_unread : List State → ℕ → Option ℕ
next_unread states from = find (λ s. is_unread (state_of states s)) (range_with_len from (length states - from))
