-- How a demonstration ends that isn't done, and what the counts of faults say then.
use Rattle.std.specs.Prelude.{ℕ, ◌≡◌, ◌≢◌, ◌≤◌, Bool, true, false, not, IsTrue, List, Result, Ok, Err}
use Rattle.rs01_outside.specs.Causes.{Rose}
use Rattle.rs01_outside.specs.DeskState.{DeskState, WorksOn}
use Rattle.rs01_outside.specs.Files.{Files}
use Rattle.rs01_create.specs.Answer as create
use Rattle.rs01_create.specs.declared.refusal.CreateRefusal.{CreateRefusal}
use Rattle.rs01_create.specs.declared.refusal.CreateRefusal.TheVariants as create_refusal
use Rattle.rs01_report.specs.declared.reports.CreateReport.{CreateReport}
use Rattle.rs01_ecchead.specs.declared.walk.WalkFault.{WalkFault}
use Rattle.rs01_ecchead.specs.declared.walk.WalkFault.TheVariants as walk
use Rattle.rs01_fix.specs.Outcome as fix
use Rattle.rs01_demo.specs.declared.refusal.DemoRefusal.{DemoRefusal}
use Rattle.rs01_demo.specs.declared.refusal.DemoRefusal.TheVariants.{Create, Fix, ReadFault, WriteFault, OutOfMemory}

-- whether a file wasn't made since reading failed, or since writing failed
abbrev pub reads_badly : DemoRefusal → Bool
reads_badly (Create why) = create.is_read_fault {T = CreateReport} (Err why)
reads_badly (Fix why) = fix.reads_badly why
reads_badly ReadFault = true
reads_badly WriteFault = false
reads_badly OutOfMemory = false

abbrev pub writes_badly : DemoRefusal → Bool
writes_badly (Create why) = create.is_write_fault {T = CreateReport} (Err why)
writes_badly (Fix why) = fix.writes_badly why
writes_badly ReadFault = false
writes_badly WriteFault = true
writes_badly OutOfMemory = false

abbrev pub is_read_fault : {T : Type 0} → Result T DemoRefusal → Bool
is_read_fault (Ok value) = false
is_read_fault (Err why) = reads_badly why

abbrev pub is_write_fault : {T : Type 0} → Result T DemoRefusal → Bool
is_write_fault (Ok value) = false
is_write_fault (Err why) = writes_badly why

-- why bytes weren't read, as it is told here
abbrev pub walk_refusal : WalkFault → DemoRefusal
walk_refusal walk.ReadFault = ReadFault
walk_refusal walk.OutOfMemory = OutOfMemory

-- a fault or want of memory while a file is made, and no refusal of its image
abbrev pub IsOfMaking : CreateRefusal → Type 0
IsOfMaking create_refusal.NoImage = ⊥
IsOfMaking create_refusal.EmptyImage = ⊥
IsOfMaking (create_refusal.TooManySectors n) = ⊥
IsOfMaking (create_refusal.Marker s) = ⊥
IsOfMaking create_refusal.ReadFault = Unit {0}
IsOfMaking create_refusal.WriteFault = Unit {0}
IsOfMaking create_refusal.OutOfMemory = Unit {0}

-- a fault or want of memory, and no refusal
abbrev pub IsFault : DemoRefusal → Type 0
IsFault (Create why) = IsOfMaking why
IsFault (Fix why) = fix.IsOfRepair why
IsFault ReadFault = Unit {0}
IsFault WriteFault = Unit {0}
IsFault OutOfMemory = Unit {0}

-- every name but these two stands for the same
abbrev pub SameButTwo : (one other : List ℕ) → (old new : Files) → Type 0
SameButTwo one other old new = (name : List ℕ) → name ≢ one → name ≢ other → new name ≡ old name

-- the counts of faults after work that ended since a read or a write failed, or for neither: that of the kind rose, and
-- else it stays
pub record CountsFaults (old new : DeskState) (read_failed write_failed : Bool) : Type 0 where
  pub tells : new.tells ≡ old.tells
  pub reads_later : old.read_faults ≤ new.read_faults
  pub writes_later : old.write_faults ≤ new.write_faults
  pub read_rose : IsTrue read_failed → Rose old.read_faults new.read_faults
  pub read_kept : IsTrue (not read_failed) → new.read_faults ≡ old.read_faults
  pub write_rose : IsTrue write_failed → Rose old.write_faults new.write_faults
  pub write_kept : IsTrue (not write_failed) → new.write_faults ≡ old.write_faults

-- work that changes no other files than these two
pub record WorksOnTwo (one other : List ℕ) (old new : DeskState) (read_failed write_failed : Bool) : Type 0 where
  pub counts : CountsFaults old new read_failed write_failed
  pub elsewhere : IsTrue old.tells → SameButTwo one other old.files new.files

abbrev pub WorksTwo : {T : Type 0} → (image ecc : List ℕ) → (old new : DeskState) → Result T DemoRefusal → Type 0
WorksTwo image ecc old new result = WorksOnTwo image ecc old new (is_read_fault result) (is_write_fault result)

-- work on one of them alone
abbrev pub Works : {T : Type 0} → List ℕ → (old new : DeskState) → Result T DemoRefusal → Type 0
Works name old new result = WorksOn name old new (is_read_fault result) (is_write_fault result)
