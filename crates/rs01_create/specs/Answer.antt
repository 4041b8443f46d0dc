-- What an attempt to make the file of an image answers, and what it leaves.
use Rattle.std.specs.Prelude.{ℕ, ◌≡◌, Bool, true, false, IsTrue, List, Option, Some, None, Result, Ok, Err}
use Rattle.rs01_outside.specs.DeskState.{DeskState, WorksOn}
use Rattle.rs01_outside.specs.Files.{Becomes, Files, bytes_of}
use Rattle.rs01_ecchead.specs.EccFile.{ecc_file, head_fields}
use Rattle.rs01_ecchead.specs.Header.{head_bytes}
use Rattle.rs01_report.specs.declared.reports.CreateReport.{CreateReport}
use Rattle.rs01_create.specs.Create.{refusal_of, report_of}
use Rattle.rs01_create.specs.Unfinished.{IsUnfinished}
use Rattle.rs01_create.specs.declared.refusal.CreateRefusal.{CreateRefusal}
use Rattle.rs01_create.specs.declared.refusal.CreateRefusal.TheVariants.{NoImage, EmptyImage, TooManySectors, Marker, ReadFault, WriteFault, OutOfMemory}

-- the file of the image stands under ECC, all others are as before, and the report is of this image
pub record IsMade (image ecc : List ℕ) (r : ℕ) (old new : Files) (report : CreateReport) : Type 0 where
  pub accepted : refusal_of (old image) ≡ None
  pub file : Becomes ecc (ecc_file (bytes_of old image) r) old new
  pub told : report ≡ report_of (bytes_of old image) r

-- the image is refused for this reason, and no file has changed
pub record IsRefused (image : List ℕ) (old new : Files) (why : CreateRefusal) : Type 0 where
  pub refused : refusal_of (old image) ≡ Some why
  pub unchanged : new ≡ old

-- what may be left under ECC after a fault or want of memory: all as before where the image is refused, else as before or
-- a file that is only begun
abbrev pub Leaves : Option CreateRefusal → (header : List ℕ) → (old new : Option (List ℕ)) → Type 0
Leaves (Some why) header old new = new ≡ old
Leaves None header old new = IsUnfinished header old new

-- the same of an attempt to make the file of an image under ECC
abbrev pub LeavesUnder : (image ecc : List ℕ) → ℕ → (old new : Files) → Type 0
LeavesUnder image ecc r old new = Leaves (refusal_of (old image)) (head_bytes (head_fields (bytes_of old image) r)) (old ecc) (new ecc)

-- what an answer says of the files before and after
abbrev pub Creates : (image ecc : List ℕ) → ℕ → (old new : Files) → Result CreateReport CreateRefusal → Type 0
Creates image ecc r old new (Ok report) = IsMade image ecc r old new report
Creates image ecc r old new (Err NoImage) = IsRefused image old new NoImage
Creates image ecc r old new (Err EmptyImage) = IsRefused image old new EmptyImage
Creates image ecc r old new (Err (TooManySectors n)) = IsRefused image old new (TooManySectors n)
Creates image ecc r old new (Err (Marker s)) = IsRefused image old new (Marker s)
Creates image ecc r old new (Err ReadFault) = LeavesUnder image ecc r old new
Creates image ecc r old new (Err WriteFault) = (refusal_of (old image) ≡ None) × LeavesUnder image ecc r old new
Creates image ecc r old new (Err OutOfMemory) = LeavesUnder image ecc r old new

-- the same where the desk tells its files
abbrev pub Answers : (image ecc : List ℕ) → ℕ → (old new : DeskState) → Result CreateReport CreateRefusal → Type 0
Answers image ecc r old new result = IsTrue old.tells → Creates image ecc r old.files new.files result

-- the same of an image whose bytes are these and that isn't refused
abbrev pub Makes : (bytes : List ℕ) → ℕ → (ecc : List ℕ) → (old new : Files) → Result CreateReport CreateRefusal → Type 0
Makes bytes r ecc old new (Ok report) = Becomes ecc (ecc_file bytes r) old new × (report ≡ report_of bytes r)
Makes bytes r ecc old new (Err why) = IsUnfinished (head_bytes (head_fields bytes r)) (old ecc) (new ecc)

-- it ends without a refusal of the image
abbrev pub IsOfMaking : {T : Type 0} → Result T CreateRefusal → Type 0
IsOfMaking (Ok value) = Unit {0}
IsOfMaking (Err NoImage) = ⊥
IsOfMaking (Err EmptyImage) = ⊥
IsOfMaking (Err (TooManySectors n)) = ⊥
IsOfMaking (Err (Marker s)) = ⊥
IsOfMaking (Err ReadFault) = Unit {0}
IsOfMaking (Err WriteFault) = Unit {0}
IsOfMaking (Err OutOfMemory) = Unit {0}

-- whether a call ended since reading failed, or since writing failed
abbrev pub is_read_fault : {T : Type 0} → Result T CreateRefusal → Bool
is_read_fault (Ok value) = false
is_read_fault (Err NoImage) = false
is_read_fault (Err EmptyImage) = false
is_read_fault (Err (TooManySectors n)) = false
is_read_fault (Err (Marker s)) = false
is_read_fault (Err ReadFault) = true
is_read_fault (Err WriteFault) = false
is_read_fault (Err OutOfMemory) = false

abbrev pub is_write_fault : {T : Type 0} → Result T CreateRefusal → Bool
is_write_fault (Ok value) = false
is_write_fault (Err NoImage) = false
is_write_fault (Err EmptyImage) = false
is_write_fault (Err (TooManySectors n)) = false
is_write_fault (Err (Marker s)) = false
is_write_fault (Err ReadFault) = false
is_write_fault (Err WriteFault) = true
is_write_fault (Err OutOfMemory) = false

-- work on the file under a name, by what it answers
abbrev pub Works : {T : Type 0} → List ℕ → (old new : DeskState) → Result T CreateRefusal → Type 0
Works name old new result = WorksOn name old new (is_read_fault result) (is_write_fault result)
