-- What a demonstration leaves and answers.
use Rattle.std.specs.Prelude.{◌≡◌, IsTrue, IsOkAnd, List, ℕ, Some, None, Result, Ok, Err}
use Rattle.std.specs.Str.{bytes_eq}
use Rattle.rs01_outside.specs.DeskState.{DeskState}
use Rattle.rs01_outside.specs.Files.{Files}
use Rattle.rs01_create.specs.Create.{refusal_of}
use Rattle.rs01_fix.specs.Answer.{Repaired}
use Rattle.rs01_demo.specs.Plan.{IsInRange, is_whole, original, outcome}
use Rattle.rs01_demo.specs.Steps.{IsLeft, IsToldOf, Stops}
use Rattle.rs01_demo.specs.declared.demonstration.Demonstration.{Demonstration}
use Rattle.rs01_demo.specs.declared.plan.Plan.{Plan}
use Rattle.rs01_demo.specs.declared.refusal.DemoRefusal.{DemoRefusal}

-- the repaired image and its error correction file are left, and the repair is told
pub record HasShown (plan : Plan) (image ecc : List ℕ) (new : Files) (shown : Demonstration) (repaired : Repaired) : Type 0 where
  pub left : IsLeft plan image ecc new repaired
  pub told : IsToldOf plan repaired shown

-- the one or a fault
abbrev pub Demos : Plan → (image ecc : List ℕ) → (old new : Files) → Result Demonstration DemoRefusal → Type 0
Demos plan image ecc old new (Ok shown) = IsOkAnd (outcome plan) (HasShown plan image ecc new shown)
Demos plan image ecc old new (Err why) = Stops plan image ecc old new why

-- where the desk tells its files
abbrev pub DemosOn : Plan → (image ecc : List ℕ) → (old new : DeskState) → Result Demonstration DemoRefusal → Type 0
DemosOn plan image ecc old new result = IsTrue old.tells → Demos plan image ecc old.files new.files result

-- no image that is made is refused: none of its sectors is the marker of a missing one
abbrev pub NoneIsRefused : Type 0
NoneIsRefused = (plan : Plan) → IsInRange plan → refusal_of (Some (original plan)) ≡ None

-- no sector is lost and no layer is strange exactly where the repaired image is the one that was made
abbrev pub WholeIsOriginal : Type 0
WholeIsOriginal = (plan : Plan) → IsInRange plan → IsOkAnd (outcome plan) (λ repaired. is_whole repaired.report ≡ bytes_eq repaired.file (original plan))
