-- What a window answers to a list of events, and where it is afterwards.
use Rattle.std.specs.Prelude.{◌≡◌, ℕ, List, [], ◌∷◌, Result, Ok, Err}
use Rattle.rs01_layers.specs.declared.input.LayerInput.{LayerInput}
use Rattle.rs01_layers.specs.declared.task.LayerOut.{LayerOut}
use Rattle.rs01_window.specs.declared.events.Event.{Event}
use Rattle.rs01_window.specs.declared.events.Seen.{Seen}
use Rattle.rs01_window.specs.declared.events.Seen.TheVariants.{Slot, Closed, Ticket, Took, Given}
use Rattle.rs01_window.specs.declared.events.StepRefused.{StepRefused}
use Rattle.rs01_window.specs.Machine.{Machine, Answer, after, KeepsToTask}

-- the last state, and all answers
abbrev pub replay : Machine → List Event → Machine × List Answer
replay m [] = (m, [])
replay m (event ∷ events) =
    let step = after m event in
    let more = replay step.0 events in
    (more.0, step.1 ∷ more.1)

module _ (value : LayerInput → LayerOut) where
  -- each event keeps to the task in the state that it finds
  abbrev pub AllKeepToTask : Machine → List Event → Type 0
  AllKeepToTask m [] = Unit {0}
  AllKeepToTask m (event ∷ events) = KeepsToTask value m event × AllKeepToTask (after m event).0 events

-- the tickets that were answered, in their order
abbrev pub ticket_in : Answer → List ℕ
ticket_in (Ok (Slot slot)) = []
ticket_in (Ok Closed) = []
ticket_in (Ok (Ticket t)) = t ∷ []
ticket_in (Ok (Took seen)) = []
ticket_in (Ok Given) = []
ticket_in (Err refused) = []
