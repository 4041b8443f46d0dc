-- Files that a map holds.
use Rattle.std.specs.Prelude.{ℕ, ◌+◌, ◌≡◌, ◌≤◌, ◌⊎◌, List, [], length, take, Vec, String, Option, Some, None, Result, Ok, Err, IsOk, IsSomeAnd}
use Rattle.std.specs.declared.alloc.Global.{Global}
use Rattle.std.specs.Option.{option_map}
use Rattle.std.specs.BTreeMap.{BTreeMap, get_by_text}
use Rattle.rs01_outside.specs.Files.{Becomes, Files, Writes}

-- the files that a map holds by their names
abbrev pub files_in : BTreeMap (String Global) (Vec ℕ Global) → Files
files_in map name = option_map (λ bytes. bytes.items) (get_by_text map name)

-- a change that was made, or that failed and left all as before
abbrev pub DoneOrNot : {E : Type 0} → (Files → Files → Type 0) → Files → Files → Result Unit E → Type 0
DoneOrNot Change old new (Ok u) = Change old new
DoneOrNot Change old new (Err e) = new ≡ old

-- a file is there and empty, or nothing changed
abbrev pub MakesOrNot : {E : Type 0} → List ℕ → Files → Files → Result Unit E → Type 0
MakesOrNot name = DoneOrNot (Becomes name [])

-- a write of so many bytes at a place ends within the named file
abbrev pub IsWithin : Files → List ℕ → ℕ → ℕ → Type 0
IsWithin files name at count = IsSomeAnd (files name) (λ bytes. at + count ≤ length bytes)

-- a write puts its bytes in place; it may fail where the file has to grow for them, and then leaves all as before
pub record WritesOrNot {E : Type 0} (name : List ℕ) (at : ℕ) (bytes : List ℕ) (old new : Files) (written : Result Unit E) : Type 0 where
  pub done : DoneOrNot (λ before now. Writes before now name at bytes) old new written
  pub within : IsWithin old name at (length bytes) → IsOk written

-- what a marked write leaves: all as before where it is to keep nothing, and else its first bytes in place, or all as before
-- where the file had to grow for them and found no memory
abbrev pub KeepsPrefix : Option ℕ → List ℕ → ℕ → List ℕ → Files → Files → Type 0
KeepsPrefix None name at bytes old new = new ≡ old
KeepsPrefix (Some kept) name at bytes old new =
    ((new ≡ old) ⊎ Writes old new name at (take kept bytes))
    × (IsWithin old name at (length (take kept bytes)) → Writes old new name at (take kept bytes))
