-- What holds of a run from one state of the desk, the drives and the output to another, whatever happened in it.
use Rattle.std.specs.Prelude.{ℕ, ◌≡◌, ◌≢◌, ◌≤◌, ◌==◌, ◌⊎◌, not, if◌then◌else◌, List, length, true, false, IsTrue, IsSome, Some, Result, Ok, Err}
use Rattle.rs01_outside.specs.Causes.{Rose}
use Rattle.rs01_outside.specs.DeskState.{DeskState}
use Rattle.rs01_outside.specs.SinkState.{SinkState, Takes}
use Rattle.rs01_linear.specs.Lasting as lasting
use Rattle.rs01_linear.specs.Medium.{IsUnfit, Numbered}
use Rattle.rs01_rack.specs.Counting.{GivesNumber}
use Rattle.rs01_rack.specs.Rack.{AllTell, AtDrive, FaultsRose, RackState}
use Rattle.rs01_rack.specs.declared.refusal.RackRefusal.TheVariants as racks
use Rattle.rs01_report.specs.declared.faults.Fault.{Fault}
use Rattle.rs01_report.specs.declared.faults.Fault.TheVariants as fault
use Rattle.rs01_report.specs.declared.puts.PutRefusal.{PutRefusal}
use Rattle.rs01_report.specs.declared.puts.PutRefusal.TheVariants.{SinkFault, OutOfMemory}
use Rattle.rs01_report.specs.Faults.{fault_line, status_of}
use Rattle.rs01_report.specs.Puts.{PutsText}
use Rattle.rs01_top.specs.Outside.{World, outside_of, world}
use Rattle.rs01_top.specs.Work.{Answers, Work}

-- a status of a run that met no fault of a file or of the output, and no want of memory
abbrev pub IsSettled : ℕ → Type 0
IsSettled status = (status ≡ 0) ⊎ (status ≡ 1) ⊎ (status ≡ 2) ⊎ (status ≡ 3) ⊎ (status ≡ 5)

-- exactly these bytes were put, where the sink tells
abbrev pub Tells : SinkState → SinkState → List ℕ → Type 0
Tells out out' line = IsTrue out.tells → Takes false out.taken out'.taken line

-- some first bytes of these were put, where the sink tells
abbrev pub Begins : SinkState → SinkState → List ℕ → Type 0
Begins out out' line = IsTrue out.tells → Takes true out.taken out'.taken line

-- what the run finds and leaves is known: the desk tells, and so do all drives afterwards, where the work uses them
abbrev pub IsKnown : Work → World → World → Type 0
IsKnown work old new = IsTrue old.desk.tells × (IsTrue work.uses_drives → AllTell new.rack)

-- the drives are as many as before, each that tells told before, and no count of theirs fell
pub record RackLasts (old new : RackState) : Type 0 where
  pub number : length new.drives ≡ length old.drives
  pub each : (k : ℕ) → AtDrive old.drives new.drives k lasting.Lasts

-- desk and sink tell after the run what they told before, no count of faults fell, and the drives stay
pub record Lasts (old new : World) : Type 0 where
  pub desk : new.desk.tells ≡ old.desk.tells
  pub sink : new.out.tells ≡ old.out.tells
  pub reads : old.desk.read_faults ≤ new.desk.read_faults
  pub writes : old.desk.write_faults ≤ new.desk.write_faults
  pub puts : old.out.faults ≤ new.out.faults
  pub drives : RackLasts old.rack new.rack

-- after status 0 to 3 or 5 the files, the drives' views, the bytes put and the status are the answer to the words, the
-- files and the drives
abbrev pub IsAnswered : Work → World → World → ℕ → Type 0
IsAnswered work old new status = IsKnown work old new → IsSettled status
    → (put : List ℕ) × Answers work (outside_of old) (outside_of new) put status × Tells old.out new.out put

-- after a fault of output alone files and views are those of the answer, and some first bytes of its text were put
abbrev pub IsUnput : Work → World → World → ℕ → Type 0
IsUnput work old new status = IsKnown work old new → status ≡ 6
    → ¬ Rose old.desk.read_faults new.desk.read_faults → ¬ Rose old.desk.write_faults new.desk.write_faults
    → (put : List ℕ) × (number : ℕ) × Answers work (outside_of old) (outside_of new) put number × Begins old.out new.out put

-- the same of words that are refused, whatever files and drives tell: some first bytes of their line were put
abbrev pub IsUnputLine : Work → World → World → ℕ → Type 0
IsUnputLine work old new status = (why : Fault) → work.refusal (outside_of old) ≡ Some why → status_of why ≡ 2 → status ≡ 6
    → Begins old.out new.out (fault_line why)

-- what may stand after any status
abbrev pub Stands : Work → World → World → Type 0
Stands work old new = IsKnown work old new → work.may_stand (outside_of old) (outside_of new)

-- the statuses that there are
abbrev pub IsStatus : ℕ → Type 0
IsStatus status = IsSettled status ⊎ (status ≡ 4) ⊎ (status ≡ 6) ⊎ (status ≡ 7)

-- what refuses the work has this status, and its line was put
pub record TellsRefusal (work : Work) (old new : World) (status : ℕ) : Type 0 where
  pub why : Fault
  pub first : work.refusal (outside_of old) ≡ Some why
  pub number : status_of why ≡ status
  pub line : Tells old.out new.out (fault_line why)

-- a status of a run that is refused for its words, its files or its drives
abbrev pub IsRefusal : ℕ → Type 0
IsRefusal status = (status ≡ 2) ⊎ (status ≡ 3) ⊎ (status ≡ 5)

-- what a refusal with this status comes from is known: that of words always, that of files where the desk tells, and that
-- of drives where they tell too
abbrev pub IsKnownFor : Work → World → World → ℕ → Type 0
IsKnownFor work old new status = (status ≡ 2) ⊎ (IsTrue old.desk.tells × (status ≡ 3)) ⊎ IsKnown work old new

-- status 2 comes only where the words are refused, 3 only where the files are and 5 only where the drives are, as far as
-- they are known; the line of that refusal was put
abbrev pub IsOnlyRefused : Work → World → World → ℕ → Type 0
IsOnlyRefused work old new status = IsRefusal status → IsKnownFor work old new status → TellsRefusal work old new status

-- a run that is refused has the refusal's status, unless the output fails, memory runs out, or a file can't be read or
-- written before the refusal is found, which doesn't happen where the words are refused
abbrev pub IsRefusedAs : Work → World → World → ℕ → Type 0
IsRefusedAs work old new status = (why : Fault) → work.refusal (outside_of old) ≡ Some why
    → IsKnownFor work old new (status_of why)
    → (status ≡ status_of why) ⊎ (status ≡ 6) ⊎ (status ≡ 7) ⊎ ((status ≡ 4) × (status_of why ≢ 2))

-- drives are refused for what they gave when each was asked for its number: there are none, or one failed, whose count
-- of faults rose, or two differ, or they agree on a number that no medium without a file can have
abbrev pub HasDriveCause : Work → Fault → RackState → RackState → Type 0
HasDriveCause work fault.NoDrive old new = GivesNumber (Err racks.NoDrive) old new
HasDriveCause work (fault.Failed drive) old new = GivesNumber (Err (racks.Failed drive)) old new × AtDrive old.drives new.drives drive FaultsRose
HasDriveCause work (fault.Differ first other) old new = GivesNumber (Err (racks.Differ first other)) old new
HasDriveCause work (fault.DriveSize n) old new = IsTrue work.sized_by_drives × GivesNumber (Ok n) old new × IsUnfit n
HasDriveCause work why old new = ⊥

-- drives that the work uses are refused, for this cause
pub record RefusesDrives (work : Work) (old new : World) : Type 0 where
  pub used : IsTrue work.uses_drives
  pub why : Fault
  pub number : status_of why ≡ 5
  pub drives_are : HasDriveCause work why old.rack new.rack
  pub line : Tells old.out new.out (fault_line why)

-- the causes of the other statuses, by the counts of faults, with the line that was put
pub record HasCause (work : Work) (old new : World) (status : ℕ) : Type 0 where
  pub files : status ≡ 4
      → (Rose old.desk.read_faults new.desk.read_faults × Tells old.out new.out (fault_line fault.ReadFault))
      ⊎ (Rose old.desk.write_faults new.desk.write_faults × Tells old.out new.out (fault_line fault.WriteFault))
  pub drives : status ≡ 5 → RefusesDrives work old new
  pub output : status ≡ 6 → Rose old.out.faults new.out.faults
  pub memory : status ≡ 7 → Begins old.out new.out (fault_line fault.OutOfMemory)

-- no file was read or written without a fault being told
abbrev pub NothingRose : DeskState → DeskState → Type 0
NothingRose old new = (new.read_faults ≡ old.read_faults) × (new.write_faults ≡ old.write_faults)

-- no fault is passed over, and where no file is to be read or written no call for it fails
pub record IsQuiet (work : Work) (old new : World) (status : ℕ) : Type 0 where
  -- words that are refused: no file is looked at
  pub no_work : (why : Fault) → work.refusal (outside_of old) ≡ Some why → status_of why ≡ 2 → NothingRose old.desk new.desk
  -- work that only reads, on any desk, and work that is refused for what is known: no file is written
  pub no_writes : IsTrue work.only_reads ⊎ (IsKnown work old new × IsSome (work.refusal (outside_of old)))
      → new.desk.write_faults ≡ old.desk.write_faults
  -- work that uses no drives: nothing is asked of them
  pub no_drives : IsTrue (not work.uses_drives) → new.rack ≡ old.rack
  pub output : status ≡ 4 → new.out.faults ≡ old.out.faults
  pub settled : IsSettled status → NothingRose old.desk new.desk × (new.out.faults ≡ old.out.faults)

-- a run that was done asked the drives, where it uses them, and they gave a number of sectors, whatever they tell
abbrev pub IsNumbered : Work → World → World → ℕ → Type 0
IsNumbered work old new status =
    (status ≡ 0) ⊎ (status ≡ 1) → IsTrue work.uses_drives → (n : ℕ) × Numbered n old.rack new.rack

-- wherever the desk tells, whatever the drives are: what the work keeps has stayed, and a run that is refused has changed
-- no file
pub record IsKept (work : Work) (old new : World) (status : ℕ) : Type 0 where
  pub files : IsTrue old.desk.tells → work.keeps old new
  pub refused : IsTrue old.desk.tells → IsRefusal status → new.desk.files ≡ old.desk.files

-- all of it
pub record IsRun (work : Work) (old new : World) (status : ℕ) : Type 0 where
  pub lasts : Lasts old new
  pub answer : IsAnswered work old new status
  pub unput : IsUnput work old new status
  pub unput_line : IsUnputLine work old new status
  pub stands : Stands work old new
  pub kept : IsKept work old new status
  pub range : IsStatus status
  pub only_refused : IsOnlyRefused work old new status
  pub refused : IsRefusedAs work old new status
  pub cause : HasCause work old new status
  pub numbered : IsNumbered work old new status
  pub quiet : IsQuiet work old new status

-- a run that is not given the drives, so that they stay as they are, whatever they are
abbrev pub RunsAlone : Work → (old new : DeskState) (out out' : SinkState) → ℕ → Type 0
RunsAlone work old new out out' status = (rack : RackState) → IsRun work (world old rack out) (world new rack out') status

-- the status once the last text was put, or not: the wanted one where it was put whole, 6 where the output failed, and 7
-- for want of memory, which stays 7 whatever happens to its line
abbrev pub ended : Result Unit PutRefusal → ℕ → ℕ
ended (Ok u) wanted = wanted
ended (Err SinkFault) wanted = if wanted == 7 then 7 else 6
ended (Err OutOfMemory) wanted = 7

-- a text was put as the last one, for a run that is to end with this status
pub record Ends (line : List ℕ) (wanted : ℕ) (out out' : SinkState) (status : ℕ) : Type 0 where
  pub put : Result Unit PutRefusal
  pub puts : PutsText out out' line put
  pub number : status ≡ ended put wanted
