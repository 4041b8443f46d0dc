-- What a repair of the image under one name by the error correction file under another leaves and answers.
use Rattle.std.specs.Prelude.{◌≡◌, ◌≢◌, Bool, true, false, List, ℕ, Result, Ok, Err, IsOk, IsOkAnd, IsTrue}
use Rattle.rs01_outside.specs.DeskState.{DeskState, WorksOn}
use Rattle.rs01_outside.specs.Files.{Becomes, Files}
use Rattle.rs01_report.specs.declared.reports.FixReport.{FixReport}
use Rattle.rs01_fix.specs.Answer.{MayStand, Repaired, fix_answer}
use Rattle.rs01_fix.specs.declared.refusal.FixRefusal.{FixRefusal}
use Rattle.rs01_fix.specs.declared.refusal.FixRefusal.TheVariants.{NoFile, Head, Size, Body, ReadFault, WriteFault, OutOfMemory}

-- a refusal that comes from the files, and from no fault or want of memory
abbrev pub IsOfFiles : FixRefusal → Type 0
IsOfFiles (NoFile which) = Unit {0}
IsOfFiles (Head why) = Unit {0}
IsOfFiles (Size have want) = Unit {0}
IsOfFiles (Body have want) = Unit {0}
IsOfFiles ReadFault = ⊥
IsOfFiles WriteFault = ⊥
IsOfFiles OutOfMemory = ⊥

-- a refusal that comes from repairing what was read
abbrev pub IsOfRepair : FixRefusal → Type 0
IsOfRepair (NoFile which) = ⊥
IsOfRepair (Head why) = ⊥
IsOfRepair (Size have want) = ⊥
IsOfRepair (Body have want) = ⊥
IsOfRepair ReadFault = Unit {0}
IsOfRepair WriteFault = Unit {0}
IsOfRepair OutOfMemory = Unit {0}

-- a refusal that tells two values tells different ones
abbrev pub TellsTwo : FixRefusal → Type 0
TellsTwo (NoFile which) = Unit {0}
TellsTwo (Head why) = Unit {0}
TellsTwo (Size have want) = have ≢ want
TellsTwo (Body have want) = have ≢ want
TellsTwo ReadFault = Unit {0}
TellsTwo WriteFault = Unit {0}
TellsTwo OutOfMemory = Unit {0}

-- whether a call ended since reading failed, and since writing did
abbrev pub reads_badly : FixRefusal → Bool
reads_badly (NoFile which) = false
reads_badly (Head why) = false
reads_badly (Size have want) = false
reads_badly (Body have want) = false
reads_badly ReadFault = true
reads_badly WriteFault = false
reads_badly OutOfMemory = false

abbrev pub writes_badly : FixRefusal → Bool
writes_badly (NoFile which) = false
writes_badly (Head why) = false
writes_badly (Size have want) = false
writes_badly (Body have want) = false
writes_badly ReadFault = false
writes_badly WriteFault = true
writes_badly OutOfMemory = false

abbrev pub is_read_fault : {T : Type 0} → Result T FixRefusal → Bool
is_read_fault (Ok value) = false
is_read_fault (Err why) = reads_badly why

abbrev pub is_write_fault : {T : Type 0} → Result T FixRefusal → Bool
is_write_fault (Ok value) = false
is_write_fault (Err why) = writes_badly why

-- work on the image under a name, by what it answers
abbrev pub Works : {T : Type 0} → List ℕ → (old new : DeskState) → Result T FixRefusal → Type 0
Works name old new result = WorksOn name old new (is_read_fault result) (is_write_fault result)

-- the image file is repaired, nothing else has changed, and what is told is right
pub record Repairs (image : List ℕ) (old new : Files) (told : FixReport) (repaired : Repaired) : Type 0 where
  pub file : Becomes image repaired.file old new
  pub report : told ≡ repaired.report

-- a refusal of the files is the one that they give, and changes nothing; after a fault or want of memory the image file
-- is one that may stand
pub record Refuses (image ecc : List ℕ) (cut : Bool) (old new : Files) (why : FixRefusal) : Type 0 where
  pub refused : IsOfFiles why → fix_answer (old ecc) (old image) cut ≡ Err why
  pub unchanged : IsOfFiles why → new ≡ old
  pub left : MayStand (fix_answer (old ecc) (old image) cut) (old image) (new image)

-- the one or the other
abbrev pub Fixes : (image ecc : List ℕ) → Bool → (old new : Files) → Result FixReport FixRefusal → Type 0
Fixes image ecc cut old new (Ok told) = IsOkAnd (fix_answer (old ecc) (old image) cut) (Repairs image old new told)
Fixes image ecc cut old new (Err why) = Refuses image ecc cut old new why

-- where the desk tells its files
abbrev pub FixesOn : (image ecc : List ℕ) → Bool → (old new : DeskState) → Result FixReport FixRefusal → Type 0
FixesOn image ecc cut old new result = IsTrue old.tells → Fixes image ecc cut old.files new.files result

-- a write fails only where the files don't forbid the repair
abbrev pub WritesLast : (image ecc : List ℕ) → Bool → DeskState → Result FixReport FixRefusal → Type 0
WritesLast image ecc cut old result =
    IsTrue old.tells → IsTrue (is_write_fault result) → IsOk (fix_answer (old.files ecc) (old.files image) cut)
