-- What comes back when a window ends.
use Rattle.std.specs.Prelude.{◌≡◌, ℕ, ◌<◌, List, All, map, slice_get, Some}
use mathlib.Core.Option.{some}
use lib.ListN.{get_elem?}
use Rattle.rs01_layers.specs.declared.input.LayerInput.{LayerInput}
use Rattle.rs01_layers.specs.declared.task.LayerOut.{LayerOut}
use Rattle.rs01_table.specs.declared.given.Given.{Given}
use Rattle.rs01_table.specs.declared.given.Given.TheVariants.{Left}
use Rattle.rs01_table.specs.declared.views.Gave.{Gave}
use Rattle.rs01_table.specs.declared.seats.Worker.{Worker}
use Rattle.rs01_table.specs.Seats.{gathered}
use Rattle.rs01_table.specs.Views.{Slot, source, IsRight, times_given}

module _ (value : LayerInput → LayerOut) where
  -- The posted inputs come back in their order, each with its value or alone. What a worker gave for a ticket comes
  -- back in the slot with that number, and where nothing was given the input comes back alone.
  pub record Ended (posted : List LayerInput) (given : List Gave) (results : List Given) : Type 0 where
    pub inputs : map source results ≡ posted
    pub values : All (IsRight value) results
    pub back : (j : ℕ) (g : Gave) → slice_get given j ≡ Some g → slice_get results g.ticket ≡ Some g.what
    pub left : (k : ℕ) (input : LayerInput) → slice_get posted k ≡ Some input → times_given k given ≡ 0
        → slice_get results k ≡ Some (Left input)

-- the same where all workers are handed in
abbrev pub EndedBy : {T : Type 0} → (LayerInput → LayerOut) → List LayerInput → List (Worker T) → List Given → Type 0
EndedBy value posted workers results = Ended value posted (gathered workers) results

-- the first n slots have something
abbrev pub AllLaid : ℕ → List Slot → Type 0
AllLaid n slots = (k : ℕ) → k < n → (what : Given) × (get_elem? slots k ≡ some (Some what))

-- the results are what the first n slots have
abbrev pub AreCollected : ℕ → List Slot → List Given → Type 0
AreCollected n slots results =
    (k : ℕ) (what : Given) → k < n → get_elem? slots k ≡ some (Some what) → get_elem? results k ≡ some what
