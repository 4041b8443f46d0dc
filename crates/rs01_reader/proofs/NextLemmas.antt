-- The sector that is next, by the flags of the unread sectors.
use Rattle.std.proofs.Common.{◌≡◌, ℕ, ◌<◌, List, length, sym, ap, ◌∙◌, arith}
use Rattle.std.specs.Prelude.{Bool, false, if◌then◌else◌, Option, Some, None}
use Rattle.std.specs.Option.{option_map}
use Rattle.std.proofs.lemmas.List.{length-map, ext_get_or}
use Rattle.rs01_intervals.specs.Maximal.{flag_at}
use Rattle.rs01_intervals.specs.Runs.{longest}
use Rattle.rs01_states.specs.declared.state.State.{State}
use Rattle.rs01_states.specs.Sparing.{is_unread, state_of}
use Rattle.rs01_turns.specs.Turns.{new_turn, next_sector, turn_start, unread_flags}
use Rattle.rs01_turns.proofs.Turning.{flag-of}
use Rattle.rs01_reader.specs.Courses.{going_on, turn_by}

pub flags-long : (states : List State) → length (unread_flags states) ≡ length states
flags-long states = length-map states is_unread

pub turn-is : (states : List State) (flags : List Bool) → flags ≡ unread_flags states → turn_by flags ≡ new_turn states
unfolding new_turn
turn-is states flags e =
    ap turn_by e ∙ ap (λ (n : ℕ). option_map (turn_start n) (longest (unread_flags states))) (flags-long states)

pub goes-is : (states : List State) (flags : List Bool) (place : ℕ) → flags ≡ unread_flags states → going_on flags place ≡ next_sector states (Some place)
unfolding next_sector
goes-is states flags place e =
    ap (λ (b : Bool). if b then Some place else turn_by flags) (ap (λ (l : List Bool). flag_at l place) e ∙ flag-of states place)
    ∙ ap (λ (o : Option ℕ). if is_unread (state_of states place) then Some place else o) (turn-is states flags e)

pub starts-is : (states : List State) (flags : List Bool) → flags ≡ unread_flags states → turn_by flags ≡ next_sector states None
unfolding next_sector
starts-is states flags e = turn-is states flags e

-- flags that agree with the states one by one
pub flags-are : (states : List State) (flags : List Bool) → length flags ≡ length states → ((s : ℕ) → s < length states → flag_at flags s ≡ is_unread (state_of states s))
    → flags ≡ unread_flags states
flags-are states flags len same =
    ext_get_or false flags (unread_flags states) (len ∙ sym (flags-long states)) (λ s below. same s (omega (arith, below, len)) ∙ sym (flag-of states s))
