-- What each step tells the seat that makes it.
use Rattle.std.specs.Prelude.{◌≡◌, ℕ, ◌/◌, ◌<◌, ◌≤◌, ◌∷◌, length, slice_index, Some, None}
use Rattle.atomic_table.specs.Table.{Me, Step, rest}
use Rattle.rs01_layers.specs.declared.input.LayerInput.{LayerInput}
use Rattle.rs01_layers.specs.declared.task.LayerOut.{LayerOut}
use Rattle.rs01_table.specs.declared.views.View.{View}
use Rattle.rs01_table.specs.declared.given.Given.TheVariants.{Left}
use Rattle.rs01_table.specs.Views.{Slot, after_claim, after_post, after_close, after_draw, after_got, after_not, after_give, laid_in, given_in}

-- the next slot comes to the poster's seat
abbrev pub Claims : Step Slot → Me Slot View → ℕ → Me Slot View → Type 0
Claims st m found n = n ≡ (after_claim m.0, (length m.0.posted, None) ∷ m.1)

-- the slot goes home with what is laid in it
abbrev pub Posts : Step Slot → Me Slot View → ℕ → Me Slot View → Type 0
Posts st m found n = n ≡ (after_post m.0 (laid_in m.1), rest m.1)

abbrev pub Closes : Step Slot → Me Slot View → ℕ → Me Slot View → Type 0
Closes st m found n = n ≡ (after_close m.0, m.1)

abbrev pub Draws : Step Slot → Me Slot View → ℕ → Me Slot View → Type 0
Draws st m found n = n ≡ (after_draw m.0 found, m.1)

module _ (fit : LayerInput → Type 0) (value : LayerInput → LayerOut) where
  -- the slot of the ticket comes with its input where it is posted, and else the worker knows whether the window is over
  abbrev pub Looks : Step Slot → Me Slot View → ℕ → Me Slot View → Type 0
  Looks st m found n =
      let t = slice_index m.0.held 0 in
      (t < found / 2 → (i : LayerInput) × fit i
      × (n ≡ (after_got m.0 found record { ticket = t; input = i }, (t, Some (Left i)) ∷ m.1)))
      × (found / 2 ≤ t → n ≡ (after_not m.0 found, m.1))

-- the slot goes home with what is given
abbrev pub Gives : Step Slot → Me Slot View → ℕ → Me Slot View → Type 0
Gives st m found n = n ≡ (after_give m.0 (given_in m.1), rest m.1)
