-- Named files, and what each call of a desk leaves of them and answers.
use Rattle.std.specs.Prelude.{ℕ, ◌+◌, ◌-◌, ◌≡◌, ◌≢◌, ◌⊎◌, List, [], ◌++◌, length, take, drop, min, Option, Some, Result, Ok, Err}
use Rattle.std.specs.Option.{option_map, unwrap_or}
use Rattle.rs01_lists.specs.Bytes.{padded}

-- the bytes of each name's file, where the name is there
abbrev pub Files : Type 0
Files = List ℕ → Option (List ℕ)

-- the bytes under a name, none where it isn't there
abbrev pub bytes_of : Files → List ℕ → List ℕ
bytes_of files name = unwrap_or (files name) []

-- every name but this one stands for the same
abbrev pub SameElsewhere : List ℕ → Files → Files → Type 0
SameElsewhere name old new = (other : List ℕ) → other ≢ name → new other ≡ old other

-- the file under a name is this one, and every other name stands for the same
pub record Becomes (name file : List ℕ) (old new : Files) : Type 0 where
  pub there : new name ≡ Some file
  pub elsewhere : SameElsewhere name old new

-- bytes put over those at a place
abbrev pub over : List ℕ → ℕ → List ℕ → List ℕ
over old at bytes = take at old ++ bytes ++ drop (at + length bytes) old

-- bytes put at a place of a file, which is first made long enough by zeros
abbrev pub put_at : List ℕ → ℕ → List ℕ → List ℕ
put_at old at bytes = over (padded (at + length bytes) old) at bytes

-- a size is that of the named file, and none where the name isn't there
abbrev pub SizeIs : Files → List ℕ → Option ℕ → Type 0
SizeIs files name size = size ≡ option_map length (files name)

-- a read takes as many of these bytes from a place on as the buffer holds, fewer only at their end
pub record ReadsBytes (bytes : List ℕ) (at : ℕ) (buffer : List ℕ) (count : ℕ) : Type 0 where
  pub counted : count ≡ min (length buffer) (length bytes - at)
  pub filled : take count buffer ≡ take count (drop at bytes)

-- a read takes the bytes of the named file, none where the name isn't there
abbrev pub ReadsAt : Files → List ℕ → ℕ → List ℕ → ℕ → Type 0
ReadsAt files name at buffer count = ReadsBytes (bytes_of files name) at buffer count

-- these bytes were put at a place of the named file, and nothing else changed
abbrev pub Writes : Files → Files → List ℕ → ℕ → List ℕ → Type 0
Writes old new name at bytes = Becomes name (put_at (bytes_of old name) at bytes) old new

-- what a write leaves: its bytes in place, and after a failure all as before or some first bytes in place
abbrev pub WritesAt : {E : Type 0} → Files → Files → List ℕ → ℕ → List ℕ → Result Unit E → Type 0
WritesAt old new name at bytes (Ok u) = Writes old new name at bytes
WritesAt old new name at bytes (Err e) = (new ≡ old) ⊎ ((kept : ℕ) × Writes old new name at (take kept bytes))

-- what making a name leaves: the empty file, and after a failure that or all as before
abbrev pub Makes : {E : Type 0} → Files → Files → List ℕ → Result Unit E → Type 0
Makes old new name (Ok u) = Becomes name [] old new
Makes old new name (Err e) = (new ≡ old) ⊎ Becomes name [] old new

-- the named file keeps its first bytes, a shorter or absent one stays, and nothing else changed
pub record Shortens (old new : Files) (name : List ℕ) (len : ℕ) : Type 0 where
  pub kept : new name ≡ option_map (take len) (old name)
  pub elsewhere : SameElsewhere name old new

-- what cutting leaves: the shortened file, and after a failure that or all as before
abbrev pub Cuts : {E : Type 0} → Files → Files → List ℕ → ℕ → Result Unit E → Type 0
Cuts old new name len (Ok u) = Shortens old new name len
Cuts old new name len (Err e) = (new ≡ old) ⊎ Shortens old new name len
