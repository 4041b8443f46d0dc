-- Reading a medium into an image: how the image file is got ready.
use Rattle.std.specs.Prelude.{ℕ, ◌≡◌, ◌⊎◌, IsSomeAnd, IsTrue, List, [], Option, Some, None, Result, Ok, Err, length}
use Rattle.std.specs.Option.{unwrap_or}
use Rattle.rs01_linear.specs.Left.{first_fates, marked, mixed}
use Rattle.rs01_linear.specs.Marking.{IsMixed, place}
use Rattle.rs01_ecchead.specs.Erased.{Known}
use Rattle.rs01_outside.specs.DeskState.{DeskState}
use Rattle.rs01_rack.specs.Rack.{AllTell, RackState}
use Rattle.rs01_report.specs.declared.reports.ReadReport.{ReadReport}
use Rattle.rs01_linear.specs.Course.{Manner, manner_of}
use Rattle.rs01_linear.specs.Medium.{known_of}
use Rattle.rs01_linear.specs.Outcome.{IsLeftAt, IsReadInto}
use Rattle.rs01_linear.specs.Report.{IsFresh}
use Rattle.rs01_linear.specs.Spared.{Guards, Spares}
use Rattle.rs01_linear.specs.declared.medium.Medium.{Medium}
use Rattle.rs01_linear.specs.declared.prepared.Prepared.{Prepared}
use Rattle.rs01_linear.specs.declared.refusal.ReadRefusal.{ReadRefusal}

-- the file is there as it was, or empty where it wasn't, and has so many bytes; after a fault it may not be there yet
abbrev pub Starts : {E : Type 0} → (old new : Option (List ℕ)) → Result ℕ E → Type 0
Starts old new (Ok size) = (new ≡ Some (unwrap_or old [])) × (size ≡ length (unwrap_or old []))
Starts old new (Err why) = (new ≡ old) ⊎ ((old ≡ None) × (new ≡ Some []))

-- the image file is marked, and what is kept is what was found; after a fault it is as it was or on the way
pub record IsPrepared (known : Known) (old new : Option (List ℕ)) (prepared : Prepared) : Type 0 where
  pub size_is : prepared.size ≡ length (unwrap_or old [])
  pub fates_are : prepared.fates.items ≡ first_fates known (unwrap_or old [])
  pub file_is : new ≡ Some (mixed (place known known.sectors) (marked known (unwrap_or old [])) (unwrap_or old []))

abbrev pub Prepares : Known → (old new : Option (List ℕ)) → Result Prepared ReadRefusal → Type 0
Prepares known old new (Ok prepared) = IsPrepared known old new prepared
Prepares known old new (Err why) = (new ≡ old) ⊎ IsMixed (marked known (unwrap_or old [])) (unwrap_or old []) new

-- the same of the image file of a medium, under a name, where the desk tells
abbrev pub TellsReady : Medium → List ℕ → (old new : DeskState) → Result Prepared ReadRefusal → Type 0
TellsReady medium name old new result = IsTrue old.tells → Prepares (known_of medium) (old.files name) (new.files name) result

-- of each of so many sectors it is kept that the image file had it good, or that it wasn't asked for yet
abbrev pub IsFreshOf : ℕ → Prepared → Type 0
IsFreshOf sectors prepared = IsFresh sectors prepared.fates.items

-- how reading into an image file that is ready ends
abbrev pub ReadsPrepared : Known → Manner → Option (List ℕ) → (old new : RackState) → Option (List ℕ) → Result ReadReport ReadRefusal → Type 0
ReadsPrepared known manner before old new file (Ok told) = IsReadInto known manner (unwrap_or before []) old new file told
ReadsPrepared known manner before old new file (Err why) = IsLeftAt known manner (unwrap_or before []) old new before file

-- the same where the desk and the drives tell, from whatever image file was got ready; and where the desk tells, whatever
-- the drives do, what is good in the file stays
pub record TellsPrepared (medium : Medium) (jump tries : ℕ) (name : List ℕ) (prepared : Prepared) (desk desk' : DeskState) (result : Result ReadReport ReadRefusal) (old new : RackState) : Type 0 where
  pub reads :
      (before : Option (List ℕ)) → IsTrue desk.tells → AllTell new → IsPrepared (known_of medium) before (desk.files name) prepared
      → ReadsPrepared (known_of medium) (manner_of jump tries) before old new (desk'.files name) result
  pub stays : (y : List ℕ) → IsTrue desk.tells → Guards (known_of medium) y prepared.fates.items (desk.files name) → IsSomeAnd (desk'.files name) (Spares (known_of medium) y)
