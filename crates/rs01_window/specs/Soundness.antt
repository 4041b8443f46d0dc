-- What holds of each state that a window comes to.
use Rattle.std.specs.Prelude.{◌≡◌, ℕ, ◌+◌, ◌<◌, ◌≤◌, ◌^◌, ◌==◌, List, [], ◌∷◌, length, slice_get, if◌then◌else◌, true, false, Option, Some, None}
use Rattle.rs01_layers.specs.declared.input.LayerInput.{LayerInput}
use Rattle.rs01_layers.specs.declared.task.LayerOut.{LayerOut}
use Rattle.rs01_window.specs.declared.events.CoreGiven.{CoreGiven}
use Rattle.rs01_window.specs.declared.status.Status.{Status}
use Rattle.rs01_window.specs.declared.status.Status.TheVariants.{Idle, Waits, Holds, Over}
use Rattle.rs01_window.specs.Machine.{Machine, IsValueOf}

-- the sum of f over a list
abbrev pub total : {A : Type 0} → (A → ℕ) → List A → ℕ
total f [] = 0
total f (x ∷ xs) = f x + total f xs

-- 1 where the numbers are equal
abbrev pub same_test : ℕ → ℕ → ℕ
same_test x y = if x == y then 1 else 0

-- how often a worker has ticket x
abbrev pub tickets_of : ℕ → Status → ℕ
tickets_of x Idle = 0
tickets_of x (Waits t) = same_test x t
tickets_of x (Holds t) = same_test x t
tickets_of x Over = 0

-- 1 where a worker has a ticket, or had one at its end
abbrev pub busy : Status → ℕ
busy Idle = 0
busy (Waits t) = 1
busy (Holds t) = 1
busy Over = 1

-- 1 where something was given
abbrev pub filled : Option CoreGiven → ℕ
filled None = 0
filled (Some given) = 1

abbrev pub filled_at : Option (Option CoreGiven) → ℕ
filled_at None = 0
filled_at (Some given) = filled given

-- how often ticket x is had by a worker, or something was given for it
abbrev pub times_known : Machine → ℕ → ℕ
times_known m x = total (tickets_of x) m.workers + filled_at (slice_get m.results x)

module _ (value : LayerInput → LayerOut) where
  -- Each ticket below the next one is had once, or something was given for it, while the window is open or the ticket's
  -- slot is posted. No other ticket is had. A worker's input is posted, and what was given is the task's value.
  pub record IsSound (m : Machine) : Type 0 where
    pub long : length m.results ≡ length m.posted
    pub fits : length m.posted ≤ m.slots
    pub once : (x : ℕ) → times_known m x ≤ 1
    pub undrawn : (x : ℕ) → m.next ≤ x → times_known m x ≡ 0
    pub count : m.next ≡ total filled m.results + total busy m.workers
    pub holds : (w t : ℕ) → slice_get m.workers w ≡ Some (Holds t) → t < length m.posted
    pub values : (slot : ℕ) (input : LayerInput) (given : CoreGiven) → slice_get m.posted slot ≡ Some input
        → slice_get m.results slot ≡ Some (Some given) → IsValueOf value input given
    pub while_open : m.closed ≡ false → (x : ℕ) → x < m.next → times_known m x ≡ 1
    pub posted_known : (x : ℕ) → x < m.next → x < length m.posted → times_known m x ≡ 1
    pub over : (w : ℕ) → slice_get m.workers w ≡ Some Over → (m.closed ≡ true) × (length m.posted < m.next)

  -- what a window keeps beside it: a slot, a worker, and room for the inputs and results of all slots
  pub record IsKept (m : Machine) (posted_room results_room : ℕ) : Type 0 where
    pub some_slot : 0 < m.slots
    pub some_worker : 0 < length m.workers
    pub few_workers : length m.workers < 2 ^ 32
    pub posted_fit : m.slots ≤ posted_room
    pub results_fit : m.slots ≤ results_room
    pub sound : IsSound m
