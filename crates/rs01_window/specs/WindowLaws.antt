-- What holds of a window after any list of events.
use Rattle.std.specs.Prelude.{◌≡◌, ℕ, ◌<◌, ◌≤◌, List, length, slice_get, Some, flat_map}
use Rattle.std.specs.List.{range_with_len}
use Rattle.rs01_layers.specs.declared.input.LayerInput.{LayerInput}
use Rattle.rs01_layers.specs.declared.task.LayerOut.{LayerOut}
use Rattle.rs01_window.specs.declared.events.CoreGiven.{CoreGiven}
use Rattle.rs01_window.specs.declared.events.Event.{Event}
use Rattle.rs01_window.specs.declared.status.Status.TheVariants.{Holds}
use Rattle.rs01_window.specs.Machine.{Machine, fresh, input_of, given_for, IsValueIn, IsOver}
use Rattle.rs01_window.specs.Replay.{replay, ticket_in, AllKeepToTask}
use Rattle.rs01_window.specs.Soundness.{times_known}

-- the tickets that are drawn are 0, 1, 2 and so on: each is drawn once
abbrev pub TicketsAreDrawnOnce : Type 0
TicketsAreDrawnOnce = (slots workers : ℕ) (events : List Event) →
    let run = replay (fresh slots workers) events in
    flat_map ticket_in run.1 ≡ range_with_len 0 run.0.next

module _ (value : LayerInput → LayerOut) where
  -- what holds of a state
  pub record KeepsOrder (m : Machine) : Type 0 where
    -- no two workers have a ticket, and none has one that was given for
    pub once : (t : ℕ) → times_known m t ≤ 1
    -- the input that a worker has is the one posted at its ticket
    pub taken : (w t : ℕ) → slice_get m.workers w ≡ Some (Holds t)
        → (input : LayerInput) × (slice_get m.posted t ≡ Some input) × (input_of m w ≡ Some input)
    -- what was given for a slot is the value of its input, or nothing
    pub values : (slot : ℕ) → IsValueIn value m slot
    -- at the end something was given for each slot that is posted
    pub given : IsOver m → (slot : ℕ) → slot < length m.posted → (given : CoreGiven) × (given_for m slot ≡ Some given)

  -- and it holds after every list of events that keep to the task
  abbrev pub RunsKeepOrder : Type 0
  RunsKeepOrder = (slots workers : ℕ) (events : List Event) → 0 < workers
      → AllKeepToTask value (fresh slots workers) events → KeepsOrder (replay (fresh slots workers) events).0
