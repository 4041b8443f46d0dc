-- Why a medium wasn't read.
use Rattle.std.specs.Prelude.{◌≡◌, Bool, false, true, IfErr, IsTrue, List, Option, None, Result, Ok, Err, ℕ}
use Rattle.std.specs.Borrow.{Bor}
use Rattle.rs01_outside.specs.DeskState.{DeskState, WorksOn}
use Rattle.rs01_ecchead.specs.Opened.{IsOfFile}
use Rattle.rs01_ecchead.specs.Opening.{TellsTwo}
use Rattle.rs01_ecchead.specs.declared.opened.EccRefusal.{EccRefusal}
use Rattle.rs01_ecchead.specs.declared.opened.EccRefusal.TheVariants as ecc
use Rattle.rs01_ecchead.specs.declared.walk.WalkFault.{WalkFault}
use Rattle.rs01_ecchead.specs.declared.walk.WalkFault.TheVariants as walk
use Rattle.rs01_linear.specs.declared.refusal.ReadRefusal.{ReadRefusal}
use Rattle.rs01_linear.specs.declared.refusal.ReadRefusal.TheVariants.{DriveSize, Ecc, OutOfMemory, Rack, ReadFault, WriteFault}

-- the refusal of an error correction file, as it is told here: a fault and want of memory are told as such
abbrev pub refusal_of : EccRefusal → ReadRefusal
refusal_of ecc.NoFile = Ecc ecc.NoFile
refusal_of (ecc.Head why) = Ecc (ecc.Head why)
refusal_of (ecc.Size have want) = Ecc (ecc.Size have want)
refusal_of (ecc.Body have want) = Ecc (ecc.Body have want)
refusal_of ecc.ReadFault = ReadFault
refusal_of ecc.OutOfMemory = OutOfMemory

-- what ended the walk over the image, as it is told here
abbrev pub walk_refusal : WalkFault → ReadRefusal
walk_refusal walk.ReadFault = ReadFault
walk_refusal walk.OutOfMemory = OutOfMemory

-- whether a reading ended since reading a file failed, and since writing one did
abbrev pub reads_badly : ReadRefusal → Bool
reads_badly (Ecc why) = false
reads_badly (Rack why) = false
reads_badly (DriveSize n) = false
reads_badly ReadFault = true
reads_badly WriteFault = false
reads_badly OutOfMemory = false

abbrev pub writes_badly : ReadRefusal → Bool
writes_badly (Ecc why) = false
writes_badly (Rack why) = false
writes_badly (DriveSize n) = false
writes_badly ReadFault = false
writes_badly WriteFault = true
writes_badly OutOfMemory = false

abbrev pub is_read_fault : {T : Type 0} → Result T ReadRefusal → Bool
is_read_fault (Ok value) = false
is_read_fault (Err why) = reads_badly why

abbrev pub is_write_fault : {T : Type 0} → Result T ReadRefusal → Bool
is_write_fault (Ok value) = false
is_write_fault (Err why) = writes_badly why

-- a refusal that comes from the error correction file or from the drives, and from no fault or want of memory
abbrev pub IsOfMedium : ReadRefusal → Type 0
IsOfMedium (Ecc why) = Unit {0}
IsOfMedium (Rack why) = Unit {0}
IsOfMedium (DriveSize n) = Unit {0}
IsOfMedium ReadFault = ⊥
IsOfMedium WriteFault = ⊥
IsOfMedium OutOfMemory = ⊥

-- a refusal of the error correction file as it is told: it is no fault or want of memory, and where it tells two values
-- they differ
abbrev pub IsToldOfFile : EccRefusal → Type 0
IsToldOfFile why = IsOfFile why × TellsTwo why

-- a refusal that comes from opening an error correction file: never a fault or want of memory inside the file's refusal
abbrev pub IsOfOpening : ReadRefusal → Type 0
IsOfOpening (Ecc why) = IsToldOfFile why
IsOfOpening (Rack why) = ⊥
IsOfOpening (DriveSize n) = ⊥
IsOfOpening ReadFault = Unit {0}
IsOfOpening WriteFault = ⊥
IsOfOpening OutOfMemory = Unit {0}

-- a refusal that comes from work on files or from want of memory, and not from the medium
abbrev pub IsOfWork : ReadRefusal → Type 0
IsOfWork (Ecc why) = ⊥
IsOfWork (Rack why) = ⊥
IsOfWork (DriveSize n) = ⊥
IsOfWork ReadFault = Unit {0}
IsOfWork WriteFault = Unit {0}
IsOfWork OutOfMemory = Unit {0}

-- a refusal of work that only reads files: never a fault or want of memory inside the file's refusal, nor a fault of writing
abbrev pub IsOfReading : ReadRefusal → Type 0
IsOfReading (Ecc why) = IsToldOfFile why
IsOfReading (Rack why) = Unit {0}
IsOfReading (DriveSize n) = Unit {0}
IsOfReading ReadFault = Unit {0}
IsOfReading WriteFault = ⊥
IsOfReading OutOfMemory = Unit {0}

-- a refusal that comes from writing a file or from want of memory
abbrev pub IsOfWriting : ReadRefusal → Type 0
IsOfWriting (Ecc why) = ⊥
IsOfWriting (Rack why) = ⊥
IsOfWriting (DriveSize n) = ⊥
IsOfWriting ReadFault = ⊥
IsOfWriting WriteFault = Unit {0}
IsOfWriting OutOfMemory = Unit {0}

-- work on the named file, where a fault of reading or writing that is told has raised the desk's count of its kind
abbrev pub WorksBy : {T : Type 0} → List ℕ → (old new : DeskState) → Result T ReadRefusal → Type 0
WorksBy name old new result = WorksOn name old new (is_read_fault result) (is_write_fault result)

-- work that writes the named file and reads none: it ends with a fault only of writing, or with want of memory
pub record Writes {T : Type 0} (name : List ℕ) (old new : DeskState) (result : Result T ReadRefusal) : Type 0 where
  pub works : WorksOn name old new false (is_write_fault result)
  pub causes : IfErr result IsOfWriting

-- a refusal that tells a fault or want of memory as such, and never inside the file's refusal
abbrev pub TellsFaults : ReadRefusal → Type 0
TellsFaults (Ecc why) = IsToldOfFile why
TellsFaults (Rack why) = Unit {0}
TellsFaults (DriveSize n) = Unit {0}
TellsFaults ReadFault = Unit {0}
TellsFaults WriteFault = Unit {0}
TellsFaults OutOfMemory = Unit {0}

-- the number of sectors in the drives refuses a medium only where no error correction file is named
abbrev pub RefusesSizeAlone : Option (Bor (List ℕ)) → ReadRefusal → Type 0
RefusesSizeAlone ecc (Ecc why) = Unit {0}
RefusesSizeAlone ecc (Rack why) = Unit {0}
RefusesSizeAlone ecc (DriveSize n) = ecc ≡ None
RefusesSizeAlone ecc ReadFault = Unit {0}
RefusesSizeAlone ecc WriteFault = Unit {0}
RefusesSizeAlone ecc OutOfMemory = Unit {0}

-- a medium that is refused is refused before any file is touched, whatever the drives tell
abbrev pub LeavesAll : (old new : DeskState) → ReadRefusal → Type 0
LeavesAll old new why = IsOfMedium why → IsTrue old.tells → new.files ≡ old.files
