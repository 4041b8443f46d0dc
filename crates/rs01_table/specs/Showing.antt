-- Which state of the machine of the window the views show.
use Rattle.std.specs.Prelude.{◌≡◌, ℕ, ◌<◌, List, [], ◌∷◌, length, slice_get, if◌then◌else◌, false, Some, None}
use mathlib.Core.Option.{some}
use lib.ListN.{get_elem?}
use Rattle.rs01_window.specs.declared.events.CoreGiven.{CoreGiven}
use Rattle.rs01_window.specs.declared.events.CoreGiven.TheVariants.{Done as CoreDone, Left as CoreLeft}
use Rattle.rs01_window.specs.declared.status.Status.{Status}
use Rattle.rs01_window.specs.declared.status.Status.TheVariants.{Idle, Waits, Holds, Over}
use Rattle.rs01_window.specs.Machine.{Machine}
use Rattle.rs01_window.specs.Reached.{Reached}
use Rattle.rs01_window.specs.Soundness.{total}
use Rattle.rs01_table.specs.Views.{times_given}
use Rattle.rs01_layers.specs.declared.input.LayerInput.{LayerInput}
use Rattle.rs01_layers.specs.declared.task.LayerOut.{LayerOut}
use Rattle.rs01_table.specs.declared.views.View.{View}
use Rattle.rs01_table.specs.declared.views.Gave.{Gave}
use Rattle.rs01_table.specs.declared.views.Hold.{Hold}
use Rattle.rs01_table.specs.declared.given.Given.{Given}
use Rattle.rs01_table.specs.declared.given.Given.TheVariants.{Done, Left}

abbrev pub core_of : Given → CoreGiven
core_of (Done input out) = CoreDone out
core_of (Left input) = CoreLeft

abbrev pub waiting : List ℕ → Status
waiting [] = Idle
waiting (t ∷ ts) = Waits t

abbrev pub holding : List ℕ → List Hold → Status
holding held [] = waiting held
holding held (g ∷ gs) = Holds g.ticket

-- what a worker is about, by its view
abbrev pub status : View → Status
status v = if v.over then Over else holding v.held v.got

-- The machine has the posted inputs and the closing of the poster's view p, n slots, this next ticket, of each worker the
-- status by its view, and the results that the views gave.
pub record Shows (m : Machine) (p : View) (n ticket : ℕ) (vs : List View) : Type 0 where
  pub slots : m.slots ≡ n
  pub posted : m.posted ≡ p.posted
  pub closed : m.closed ≡ p.closed
  pub next : m.next ≡ ticket
  pub staff : length m.workers ≡ p.workers
  pub workers : (i : ℕ) (v : View) → get_elem? vs i ≡ some v → v.posts ≡ false → (w : ℕ) → v.numbers ≡ w ∷ []
      → slice_get m.workers w ≡ Some (status v)
  pub long : length m.results ≡ length p.posted
  pub back : (i : ℕ) (v : View) → get_elem? vs i ≡ some v → (j : ℕ) (g : Gave) → get_elem? v.given j ≡ some g
      → slice_get m.results g.ticket ≡ Some (Some (core_of g.what))
  pub open_yet : (k : ℕ) → k < length p.posted → total (λ (v : View). times_given k v.given) vs ≡ 0
      → slice_get m.results k ≡ Some None

module _ (value : LayerInput → LayerOut) where
  -- a state that the machine comes to
  abbrev pub Shown : View → ℕ → ℕ → List View → Type 0
  Shown p n ticket vs = (m : Machine) × Reached value m × Shows m p n ticket vs
