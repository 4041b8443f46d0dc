-- Pieces of a file that are read into a buffer, and fed to a digest.
use Rattle.std.specs.Prelude.{ℕ, ◌≡◌, ◌≤◌, List, ◌++◌, length}
use Rattle.md5.specs.Md5.{Holds}
use Rattle.md5.specs.declared.Md5.{Md5}
use Rattle.rs01_lists.specs.Bytes.{padded, part}
use Rattle.rs01_outside.specs.DeskState.{DeskState, InFile}

-- a buffer holds the bytes of a file from a place on, and zeros for those that the file doesn't have
abbrev pub IsPiece : List ℕ → ℕ → List ℕ → Type 0
IsPiece file at buffer = buffer ≡ padded (length buffer) (part file at (length buffer))

-- a fact about the bytes under a name, where there are at least so many
abbrev pub InFileTo : DeskState → List ℕ → ℕ → (List ℕ → Type 0) → Type 0
InFileTo state name to Fact = InFile state name (λ file. to ≤ length file → Fact file)

-- a digest was fed these bytes, behind all those that it was fed before
abbrev pub IsFed : Md5 → Md5 → List ℕ → Type 0
IsFed old new bytes = (m : List ℕ) → Holds old m → Holds new (m ++ bytes)
