-- What an attempt that failed may leave of the file that it was to make.
use Rattle.std.specs.Prelude.{ℕ, ◌≡◌, ◌-◌, ◌⊎◌, List, ◌++◌, length, take, Option, Result, Ok, Err, IsSomeAnd}
use Rattle.rs01_lists.specs.Bytes.{zeros}
use Rattle.rs01_outside.specs.Files.{Becomes, Files}

-- a file whose first 4096 bytes, as far as they are there, are zeros, or first bytes of this header and then zeros
abbrev pub IsBegun : List ℕ → List ℕ → Type 0
IsBegun header file =
    (take 4096 file ≡ zeros (length (take 4096 file)))
    ⊎ ((n : ℕ) × (take 4096 file ≡ take n header ++ zeros (4096 - n)))

-- a file that is as before, or only begun
abbrev pub IsUnfinished : List ℕ → Option (List ℕ) → Option (List ℕ) → Type 0
IsUnfinished header old new = (new ≡ old) ⊎ IsSomeAnd new (IsBegun header)

-- what beginning a file under a name leaves: zeros in place of a header and these checksums behind them, and all others
-- as before, or a file that is only begun, whatever its header would be
abbrev pub Begins : {T E : Type 0} → (sums name : List ℕ) → (old new : Files) → Result T E → Type 0
Begins sums name old new (Ok value) = Becomes name (zeros 4096 ++ sums) old new
Begins sums name old new (Err e) = (header : List ℕ) → IsUnfinished header (old name) (new name)
