-- The states that a window comes to.
use Rattle.std.specs.Prelude.{◌≡◌, ℕ, Ok}
use Rattle.rs01_layers.specs.declared.input.LayerInput.{LayerInput}
use Rattle.rs01_layers.specs.declared.task.LayerOut.{LayerOut}
use Rattle.rs01_window.specs.declared.events.Event.{Event}
use Rattle.rs01_window.specs.declared.events.Seen.{Seen}
use Rattle.rs01_window.specs.Machine.{Machine, fresh, after, KeepsToTask}

-- a new window, or one after an event that happens and keeps to the task
pub data Reached (value : LayerInput → LayerOut) : Machine → Type 0 where
  start : (slots workers : ℕ) → Reached value (fresh slots workers)
  next : (m : Machine) (event : Event) (seen : Seen) → Reached value m → (after m event).1 ≡ Ok seen
      → KeepsToTask value m event → Reached value (after m event).0
