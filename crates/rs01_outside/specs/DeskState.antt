-- What a desk tells of itself, and what a call may do to it.
use Rattle.std.specs.Prelude.{ℕ, ◌≡◌, ◌≤◌, Bool, IsTrue, List, not}
use Rattle.rs01_outside.specs.Causes.{Rose}
use Rattle.rs01_outside.specs.Files.{Files, SameElsewhere, bytes_of}

pub record DeskState : Type 0 where
  -- whether it tells its files
  pub tells : Bool
  -- the files, where it tells them
  pub files : Files
  -- how often `size` and `read_at` have failed, up to the last value of a u64
  pub read_faults : ℕ
  -- how often `write_at`, `make` and `cut` have failed, up to the last value of a u64
  pub write_faults : ℕ

-- a fact about the bytes under a name, where the desk tells them; they are none where the name isn't there
abbrev pub InFile : DeskState → List ℕ → (List ℕ → Type 0) → Type 0
InFile state name Fact = IsTrue state.tells → Fact (bytes_of state.files name)

-- a call that reads and changes nothing: where it failed to read, the count of read faults rose, and else it stays
pub record OnlyReads (old new : DeskState) (failed : Bool) : Type 0 where
  pub tells : new.tells ≡ old.tells
  pub unchanged : IsTrue old.tells → new.files ≡ old.files
  pub later : old.read_faults ≤ new.read_faults
  pub rose : IsTrue failed → Rose old.read_faults new.read_faults
  pub kept : IsTrue (not failed) → new.read_faults ≡ old.read_faults
  pub writes : new.write_faults ≡ old.write_faults

-- a call that changes no other file than the named one: where it failed to write, the count of write faults rose, and
-- else it stays
pub record OnlyChanges (name : List ℕ) (old new : DeskState) (failed : Bool) : Type 0 where
  pub tells : new.tells ≡ old.tells
  pub elsewhere : IsTrue old.tells → SameElsewhere name old.files new.files
  pub later : old.write_faults ≤ new.write_faults
  pub rose : IsTrue failed → Rose old.write_faults new.write_faults
  pub kept : IsTrue (not failed) → new.write_faults ≡ old.write_faults
  pub reads : new.read_faults ≡ old.read_faults

-- work that reads files and changes no other one than the named one: where it ended since a read or a write failed, the
-- count of that kind rose, and else it stays
pub record WorksOn (name : List ℕ) (old new : DeskState) (read_failed write_failed : Bool) : Type 0 where
  pub tells : new.tells ≡ old.tells
  pub elsewhere : IsTrue old.tells → SameElsewhere name old.files new.files
  pub reads_later : old.read_faults ≤ new.read_faults
  pub writes_later : old.write_faults ≤ new.write_faults
  pub read_rose : IsTrue read_failed → Rose old.read_faults new.read_faults
  pub read_kept : IsTrue (not read_failed) → new.read_faults ≡ old.read_faults
  pub write_rose : IsTrue write_failed → Rose old.write_faults new.write_faults
  pub write_kept : IsTrue (not write_failed) → new.write_faults ≡ old.write_faults
