-- What a run has to do, whatever its command.
use Rattle.std.specs.Prelude.{ℕ, ◌≡◌, Bool, false, true, List, Option, Some, None, Result, Ok, Err}
use Rattle.rs01_report.specs.declared.faults.Fault.{Fault}
use Rattle.rs01_report.specs.Faults.{fault_line, status_of}
use Rattle.rs01_top.specs.Outside.{Outside, World}

pub record Work : Type 1 where
  -- the first fault of the words or of what is found, if any; the work is refused for it
  pub refusal : Outside → Option Fault
  -- what work that isn't refused leaves, puts and answers: a relation of what is found, what is left, the bytes that are
  -- put, and the status
  pub done : Outside → Outside → List ℕ → ℕ → Type 0
  -- what may stand after any run, also after a fault or want of memory
  pub may_stand : Outside → Outside → Type 0
  -- what stays of the files after any run, whatever the drives tell
  pub keeps : World → World → Type 0
  -- whether it only reads files
  pub only_reads : Bool
  -- whether it asks the drives; other work leaves them as they are
  pub uses_drives : Bool
  -- whether they alone say how many sectors the medium has, since no error correction file is named
  pub sized_by_drives : Bool

-- nothing changes, no sector is asked for, the fault's line is put, and the status is the fault's
pub record IsRefused (why : Fault) (old new : Outside) (put : List ℕ) (status : ℕ) : Type 0 where
  pub files : new.files ≡ old.files
  pub views : new.views ≡ old.views
  pub line : put ≡ fault_line why
  pub number : status ≡ status_of why

-- by the first refusal, if any
abbrev pub AnswersBy : Option Fault → (Outside → Outside → List ℕ → ℕ → Type 0) → Outside → Outside → List ℕ → ℕ → Type 0
AnswersBy None done old new put status = done old new put status
AnswersBy (Some why) done old new put status = IsRefused why old new put status

-- what is found and left, the bytes that are put and the status are those that the work asks for
abbrev pub Answers : Work → Outside → Outside → List ℕ → ℕ → Type 0
Answers work old new put status = AnswersBy (work.refusal old) work.done old new put status

-- no work at all, but a fault to tell
abbrev pub no_work : Fault → Work
no_work why = record {
  refusal = λ found. Some why;
  done = λ old new put status. ⊥;
  may_stand = λ old new. new.files ≡ old.files;
  keeps = λ old new. new.desk.files ≡ old.desk.files;
  only_reads = true;
  uses_drives = false;
  sized_by_drives = false;
}

-- the fault of an answer that is a refusal
abbrev pub fault_in : {T E : Type 0} → (E → Fault) → Result T E → Option Fault
fault_in fault_of (Ok value) = None
fault_in fault_of (Err why) = Some (fault_of why)

-- the same of a refusal that there may be
abbrev pub fault_if : {E : Type 0} → (E → Fault) → Option E → Option Fault
fault_if fault_of None = None
fault_if fault_of (Some why) = Some (fault_of why)
