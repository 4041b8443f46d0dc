-- What looking at an image finds.
use Rattle.std.specs.Prelude.{ℕ, ◌≡◌, ◌<◌, List, [], IsTrue, IfOk, Option, Some, None, Result, Ok, Err}
use Rattle.std.specs.Option.{unwrap_or}
use Rattle.md5.specs.Md5.{md5}
use Rattle.rs01_layers.specs.Extents.{IsExtentOf}
use Rattle.rs01_layers.specs.Sectors.{last_of, sector, sectors_of}
use Rattle.rs01_outside.specs.DeskState.{DeskState}
use Rattle.rs01_ecchead.specs.EccFile.{mark_sector_of, sum_bytes}
use Rattle.rs01_ecchead.specs.declared.walk.WalkFault.{WalkFault}
use Rattle.rs01_ecchead.specs.declared.walk.WalkFault.TheVariants as walk
use Rattle.rs01_create.specs.Create.{refusal_of, size_refusal}
use Rattle.rs01_create.specs.declared.found.Found.{Found}
use Rattle.rs01_create.specs.declared.plan.Plan.{Plan}
use Rattle.rs01_create.specs.declared.refusal.CreateRefusal.{CreateRefusal}
use Rattle.rs01_create.specs.declared.refusal.CreateRefusal.TheVariants.{NoImage, EmptyImage, TooManySectors, Marker, ReadFault, WriteFault, OutOfMemory}

-- the plan of an image of this many bytes
pub record IsPlanOf (size r : ℕ) (plan : Plan) : Type 0 where
  pub accepted : size_refusal size ≡ None
  pub sectors : plan.extent.sectors ≡ sectors_of size
  pub last : plan.extent.last_bytes ≡ last_of size
  pub parity : plan.shape.parity ≡ r

-- it is made, or why there is none
abbrev pub IsMeasured : ℕ → ℕ → Result Plan CreateRefusal → Type 0
IsMeasured size r (Ok plan) = IsPlanOf size r plan
IsMeasured size r (Err NoImage) = ⊥
IsMeasured size r (Err EmptyImage) = size_refusal size ≡ Some EmptyImage
IsMeasured size r (Err (TooManySectors n)) = (size_refusal size ≡ Some (TooManySectors n)) × (16777215 < n)
IsMeasured size r (Err (Marker s)) = ⊥
IsMeasured size r (Err ReadFault) = ⊥
IsMeasured size r (Err WriteFault) = ⊥
IsMeasured size r (Err OutOfMemory) = ⊥

-- why bytes weren't read, as it is told here
abbrev pub walk_refusal : WalkFault → CreateRefusal
walk_refusal walk.ReadFault = ReadFault
walk_refusal walk.OutOfMemory = OutOfMemory

-- what was found is that of an image
pub record IsFoundOf (image : List ℕ) (found : Found) : Type 0 where
  pub extended : IsExtentOf image found.plan.extent
  pub image_sum : found.image_sum ≡ md5 image
  pub fingerprint : found.fingerprint ≡ md5 (sector image (mark_sector_of image))

-- it is that of a file that is there and can be protected
pub record IsAccepted (file : Option (List ℕ)) (found : Found) : Type 0 where
  pub there : file ≡ Some (unwrap_or file [])
  pub accepted : refusal_of file ≡ None
  pub found_is : IsFoundOf (unwrap_or file []) found

-- what looking at an image answers: what was found where it can be protected, or why it can't be
abbrev pub Looks : Option (List ℕ) → Result Found CreateRefusal → Type 0
Looks file (Ok found) = IsAccepted file found
Looks file (Err NoImage) = refusal_of file ≡ Some NoImage
Looks file (Err EmptyImage) = refusal_of file ≡ Some EmptyImage
Looks file (Err (TooManySectors n)) = refusal_of file ≡ Some (TooManySectors n)
Looks file (Err (Marker s)) = refusal_of file ≡ Some (Marker s)
Looks file (Err ReadFault) = Unit {0}
Looks file (Err WriteFault) = Unit {0}
Looks file (Err OutOfMemory) = Unit {0}

-- what looking at the image under a name answers, where the desk tells it
abbrev pub LooksAt : DeskState → List ℕ → Result Found CreateRefusal → Type 0
LooksAt state name result = IsTrue state.tells → Looks (state.files name) result

-- the checksums that were found are those of the image's sectors, where the desk tells it
abbrev pub HasSums : DeskState → List ℕ → Result Found CreateRefusal → Type 0
HasSums state name result = IsTrue state.tells → IfOk result (λ found. found.sums.items ≡ sum_bytes (unwrap_or (state.files name) []))
