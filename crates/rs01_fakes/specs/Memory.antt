-- What a desk in memory holds, and what its calls leave beside their files.
use Rattle.std.specs.Prelude.{ℕ, ◌≡◌, Bool, true, not, IsTrue, List, Option, Result}
use Rattle.rs01_outside.specs.DeskState.{DeskState, OnlyChanges, OnlyReads}
use Rattle.rs01_outside.specs.Files.{Files, WritesAt}
use Rattle.rs01_fakes.specs.Marks.{after_call, after_write, call_is_marked, faults_after, mark_at, write_is_marked}
use Rattle.rs01_fakes.specs.Stored.{KeepsPrefix, WritesOrNot, files_in}
use Rattle.rs01_fakes.specs.declared.marks.Marks.{Marks}
use Rattle.rs01_fakes.specs.declared.memory_desk.MemoryDesk.{MemoryDesk}

-- what it tells
abbrev pub desk_state : MemoryDesk → DeskState
desk_state desk = record {
  tells = true;
  files = files_in desk.files;
  read_faults = desk.read_faults;
  write_faults = desk.write_faults;
}

-- the same but for the files
abbrev pub with_files : DeskState → Files → DeskState
with_files state files = record state { files = files }

-- its files
abbrev pub files_of : MemoryDesk → Files
files_of desk = files_in desk.files

-- which of its calls are marked to fail
abbrev pub marks_of : MemoryDesk → Marks
marks_of desk = desk.marks

-- the call with this number is to fail
abbrev pub mark_call : Marks → ℕ → Marks
mark_call marks call = record marks { calls = mark_at marks.calls call }

-- the write with this number is to fail
abbrev pub mark_write : Marks → ℕ → Marks
mark_write marks write = record marks { writes = mark_at marks.writes write }

-- a marked write is to keep so many of its bytes, or to leave all as before
abbrev pub mark_kept : Marks → Option ℕ → Marks
mark_kept marks kept = record marks { kept = kept }

-- a call that reads and changes no file fails exactly where it is marked, and adds one to the count where it failed
pub record Reads (old new : MemoryDesk) (failed : Bool) : Type 0 where
  pub state : OnlyReads (desk_state old) (desk_state new) failed
  pub fails : failed ≡ call_is_marked (marks_of old)
  pub marks : marks_of new ≡ after_call (marks_of old)
  pub faults : new.read_faults ≡ faults_after old.read_faults failed

-- a call that changes no other file fails where it is marked, and adds one to the count where it failed
pub record Changes (is_marked : Marks → Bool) (after : Marks → Marks) (name : List ℕ) (old new : MemoryDesk) (failed : Bool) : Type 0 where
  pub state : OnlyChanges name (desk_state old) (desk_state new) failed
  pub fails : IsTrue (is_marked (marks_of old)) → IsTrue failed
  pub marks : marks_of new ≡ after (marks_of old)
  pub faults : new.write_faults ≡ faults_after old.write_faults failed

-- such a call by the marks of all calls, and by those of writes too
abbrev pub CallChanges : List ℕ → MemoryDesk → MemoryDesk → Bool → Type 0
CallChanges = Changes call_is_marked after_call

abbrev pub WriteChanges : List ℕ → MemoryDesk → MemoryDesk → Bool → Type 0
WriteChanges = Changes write_is_marked after_write

-- a write that is marked keeps some first bytes, and any other one is done or found no memory
pub record WritesAsMarked {E : Type 0} (name : List ℕ) (at : ℕ) (bytes : List ℕ) (old new : MemoryDesk) (written : Result Unit E) : Type 0 where
  pub files : WritesAt (files_of old) (files_of new) name at bytes written
  pub marked : IsTrue (write_is_marked (marks_of old)) → KeepsPrefix (marks_of old).kept name at bytes (files_of old) (files_of new)
  pub unmarked : IsTrue (not (write_is_marked (marks_of old))) → WritesOrNot name at bytes (files_of old) (files_of new) written
