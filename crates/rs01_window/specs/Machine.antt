-- The window as a machine: its states, and what each event answers and leaves.
use Rattle.std.specs.Prelude.{◌≡◌, ℕ, ◌+◌, List, [], ◌∷◌, ◌++◌, length, slice_get, slice_set, if◌then◌else◌, nat_lt, Bool, true, false, Option, Some, None, Result, Ok, Err, replicate}
use Rattle.rs01_layers.specs.declared.input.LayerInput.{LayerInput}
use Rattle.rs01_layers.specs.declared.task.LayerOut.{LayerOut}
use Rattle.rs01_window.specs.declared.events.CoreGiven.{CoreGiven}
use Rattle.rs01_window.specs.declared.events.CoreGiven.TheVariants.{Done, Left}
use Rattle.rs01_window.specs.declared.status.Status.{Status}
use Rattle.rs01_window.specs.declared.status.Status.TheVariants.{Idle, Waits, Holds, Over}
use Rattle.rs01_window.specs.declared.events.Event.{Event}
use Rattle.rs01_window.specs.declared.events.Event.TheVariants.{Post, Close, Draw, Take, Give}
use Rattle.rs01_window.specs.declared.events.PostRefused.{PostRefused}
use Rattle.rs01_window.specs.declared.events.PostRefusal.{PostRefusal}
use Rattle.rs01_window.specs.declared.events.PostRefusal.TheVariants.{Closed, Full}
use Rattle.rs01_window.specs.declared.events.TakeSeen.{TakeSeen}
use Rattle.rs01_window.specs.declared.events.TakeSeen.TheVariants.{Got, NotYet, Over as SawEnd}
use Rattle.rs01_window.specs.declared.events.Seen.{Seen}
use Rattle.rs01_window.specs.declared.events.Seen.TheVariants.{Slot, Closed as NowClosed, Ticket, Took, Given}
use Rattle.rs01_window.specs.declared.events.StepRefused.{StepRefused}
use Rattle.rs01_window.specs.declared.events.StepRefused.TheVariants.{Post as NotPosted, Illegal}

-- A window has `slots` slots. An input lies in the slot with its number in the list of posted ones. For each of these
-- there is a result, or none yet. The status of each worker tells its ticket, and `next` is the next one to be drawn.
pub record Machine : Type 0 where
  pub slots : ℕ
  pub posted : List LayerInput
  pub closed : Bool
  pub next : ℕ
  pub workers : List Status
  pub results : List (Option CoreGiven)

-- the machine with these parts
abbrev pub machine_of : ℕ → List LayerInput → Bool → ℕ → List Status → List (Option CoreGiven) → Machine
machine_of slots posted closed next workers results =
    record { slots = slots; posted = posted; closed = closed; next = next; workers = workers; results = results }

-- a new window with so many slots and workers
abbrev pub fresh : ℕ → ℕ → Machine
fresh slots workers = machine_of slots [] false 0 (replicate workers Idle) []

abbrev pub Answer : Type 0
Answer = Result Seen StepRefused

-- a state, and the answer that came with it
abbrev pub Outcome : Type 0
Outcome = Machine × Answer

abbrev pub with_status : Machine → ℕ → Status → Machine
with_status m w status = record m { workers = slice_set m.workers w status }

-- the states that the events lead to

abbrev pub with_posted : Machine → LayerInput → Machine
with_posted m input = record m { posted = m.posted ++ input ∷ []; results = m.results ++ None ∷ [] }

abbrev pub when_closed : Machine → Machine
when_closed m = record m { closed = true }

abbrev pub with_drawn : Machine → ℕ → Machine
with_drawn m w = record (with_status m w (Waits m.next)) { next = m.next + 1 }

abbrev pub with_given : Machine → ℕ → CoreGiven → ℕ → Machine
with_given m w given t = record (with_status m w Idle) { results = slice_set m.results t (Some given) }

-- the events

abbrev pub illegal : Machine → Event → Outcome
illegal m event = (m, Err (Illegal event))

abbrev pub refused : Machine → PostRefusal → LayerInput → Outcome
refused m why input = (m, Err (NotPosted record { why = why; input = input }))

abbrev pub post : Machine → LayerInput → Outcome
post m input = if m.closed then refused m Closed input else
    if nat_lt (length m.posted) m.slots then (with_posted m input, Ok (Slot (length m.posted)))
    else refused m Full input

abbrev pub draw : Machine → ℕ → Option Status → Outcome
draw m w (Some Idle) = (with_drawn m w, Ok (Ticket m.next))
draw m w (Some (Waits t)) = illegal m (Draw w)
draw m w (Some (Holds t)) = illegal m (Draw w)
draw m w (Some Over) = illegal m (Draw w)
draw m w None = illegal m (Draw w)

abbrev pub look : Machine → ℕ → ℕ → Outcome
look m w t = if nat_lt t (length m.posted) then (with_status m w (Holds t), Ok (Took Got)) else
    if m.closed then (with_status m w Over, Ok (Took SawEnd)) else (m, Ok (Took NotYet))

abbrev pub take : Machine → ℕ → Option Status → Outcome
take m w (Some Idle) = illegal m (Take w)
take m w (Some (Waits t)) = look m w t
take m w (Some (Holds t)) = illegal m (Take w)
take m w (Some Over) = illegal m (Take w)
take m w None = illegal m (Take w)

abbrev pub give : Machine → ℕ → CoreGiven → Option Status → Outcome
give m w given (Some Idle) = illegal m (Give w given)
give m w given (Some (Waits t)) = illegal m (Give w given)
give m w given (Some (Holds t)) = (with_given m w given t, Ok Given)
give m w given (Some Over) = illegal m (Give w given)
give m w given None = illegal m (Give w given)

-- the state after an event, and its answer
abbrev pub after : Machine → Event → Outcome
after m (Post input) = post m input
after m Close = (when_closed m, Ok NowClosed)
after m (Draw w) = draw m w (slice_get m.workers w)
after m (Take w) = take m w (slice_get m.workers w)
after m (Give w given) = give m w given (slice_get m.workers w)

-- the answer to posting, and to a look, as that to an event
abbrev pub of_post : Result ℕ PostRefused → Answer
of_post (Ok slot) = Ok (Slot slot)
of_post (Err refused) = Err (NotPosted refused)

abbrev pub of_take : TakeSeen → Answer
of_take seen = Ok (Took seen)

-- what may be asked of a worker

abbrev pub IsIdle : Machine → ℕ → Type 0
IsIdle m w = slice_get m.workers w ≡ Some Idle

abbrev pub IsWaiting : Machine → ℕ → Type 0
IsWaiting m w = (t : ℕ) × (slice_get m.workers w ≡ Some (Waits t))

abbrev pub IsHolding : Machine → ℕ → Type 0
IsHolding m w = (t : ℕ) × (slice_get m.workers w ≡ Some (Holds t))

-- the input that a worker has, the one posted at its ticket
abbrev pub input_at : Machine → Option Status → Option LayerInput
input_at m None = None
input_at m (Some Idle) = None
input_at m (Some (Waits t)) = None
input_at m (Some (Holds t)) = slice_get m.posted t
input_at m (Some Over) = None

abbrev pub input_of : Machine → ℕ → Option LayerInput
input_of m w = input_at m (slice_get m.workers w)

-- what was given for a slot
abbrev pub given_in : Option (Option CoreGiven) → Option CoreGiven
given_in None = None
given_in (Some given) = given

abbrev pub given_for : Machine → ℕ → Option CoreGiven
given_for m slot = given_in (slice_get m.results slot)

module _ (value : LayerInput → LayerOut) where
  -- what is given is the value of the input, or nothing
  abbrev pub IsValueOf : LayerInput → CoreGiven → Type 0
  IsValueOf input (Done out) = out ≡ value input
  IsValueOf input Left = Unit {0}

  -- what the worker gives is the value of the input that it has, or nothing
  abbrev pub IsValueAt : Option LayerInput → CoreGiven → Type 0
  IsValueAt None given = Unit {0}
  IsValueAt (Some input) given = IsValueOf input given

  abbrev pub MayGive : Machine → ℕ → CoreGiven → Type 0
  MayGive m w given = IsValueAt (input_of m w) given

  -- what was given for a slot is the value of its input, or nothing
  abbrev pub IsValueIn : Machine → ℕ → Type 0
  IsValueIn m slot = (input : LayerInput) (given : CoreGiven) → slice_get m.posted slot ≡ Some input
      → given_for m slot ≡ Some given → IsValueOf input given

  -- an event keeps to the task: what it gives is the task's value
  abbrev pub KeepsToTask : Machine → Event → Type 0
  KeepsToTask m (Post input) = Unit {0}
  KeepsToTask m Close = Unit {0}
  KeepsToTask m (Draw w) = Unit {0}
  KeepsToTask m (Take w) = Unit {0}
  KeepsToTask m (Give w given) = MayGive m w given

-- the window is closed, and each worker saw it
pub record IsOver (m : Machine) : Type 0 where
  pub closed : m.closed ≡ true
  pub workers : (w : ℕ) (status : Status) → slice_get m.workers w ≡ Some status → status ≡ Over
