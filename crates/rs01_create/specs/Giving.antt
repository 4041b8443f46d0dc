-- What giving the input of a layer leaves.
use Rattle.std.specs.Prelude.{ℕ, ◌≡◌, ◌+◌, ◌-◌, All, List, false}
use Rattle.rs01_layers.specs.Blocks.{blocks_of}
use Rattle.rs01_layers.specs.Extents.{IsExtentOf}
use Rattle.rs01_layers.specs.Layer.{layer}
use Rattle.rs01_layers.specs.declared.input.LayerInput.{LayerInput}
use Rattle.rs01_outside.specs.DeskState.{DeskState, InFile}
use Rattle.rs01_create.specs.Making.{IsAhead}
use Rattle.rs01_create.specs.declared.course.Course.{Course}
use Rattle.rs01_create.specs.declared.plan.Plan.{Plan}
use Rattle.rs01_create.specs.declared.refusal.CreateRefusal.{CreateRefusal}
use Rattle.rs01_create.specs.declared.refusal.CreateRefusal.TheVariants.{NoImage, EmptyImage, TooManySectors, Marker, ReadFault, WriteFault, OutOfMemory}

-- the input of the next layer was given, with its blocks and no place flagged
pub record GivesInput (state : DeskState) (image : List ℕ) (plan : Plan) (old new : Course) (input : LayerInput) : Type 0 where
  pub layer_is : input.layer ≡ old.next
  pub next : new.next ≡ old.next + 1
  pub parity : input.parity_count ≡ plan.shape.parity
  pub flags : All (λ flag. flag ≡ false) input.erased
  pub blocks : InFile state image (λ file. IsExtentOf file plan.extent → blocks_of (255 - plan.shape.parity) input.data_ ≡ layer file plan.shape.parity input.layer)
  pub ahead : IsAhead state image plan new.next new.window.items

-- it stopped since reading failed or memory ran out
abbrev pub IsOfReading : CreateRefusal → Type 0
IsOfReading NoImage = ⊥
IsOfReading EmptyImage = ⊥
IsOfReading (TooManySectors n) = ⊥
IsOfReading (Marker s) = ⊥
IsOfReading ReadFault = Unit {0}
IsOfReading WriteFault = ⊥
IsOfReading OutOfMemory = Unit {0}
