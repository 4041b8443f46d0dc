-- Neighbouring sectors of an image file that are read at once.
use Rattle.std.specs.Prelude.{ℕ, ◌≡◌, ◌+◌, ◌*◌, ◌/◌, ◌<◌, List, length, OnOk, Result}
use Rattle.rs01_layers.specs.Sectors.{block, length_of}
use Rattle.rs01_layers.specs.declared.extent.Extent.{Extent}
use Rattle.rs01_lists.specs.Bytes.{part}
use Rattle.rs01_outside.specs.DeskState.{DeskState, InFile}

-- a buffer holds the blocks of the sectors from `first` on of an image of n sectors, whose last one has `last` bytes
abbrev pub IsRun : List ℕ → ℕ → ℕ → ℕ → List ℕ → Type 0
IsRun file n last first buffer = (k : ℕ) → k < length buffer / 2048
    → part buffer (2048 * k) 2048 ≡ block file (first + k) (length_of n last (first + k))

-- where they were read, a buffer holds the blocks that the named file has of them
abbrev pub ReadsRun : {T E : Type 0} → DeskState → (name : List ℕ) → Extent → (first : ℕ) → (buffer : List ℕ) → Result T E → Type 0
ReadsRun desk name extent first buffer result =
    InFile desk name (λ file. OnOk result (IsRun file extent.sectors extent.last_bytes first buffer))
