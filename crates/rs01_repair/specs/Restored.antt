-- What is restored by the answer to a layer.
use Rattle.std.specs.Prelude.{ℕ, ◌≡◌, ◌<◌, ◌==◌, ◌&&◌, Bool, true, false, List, Option, Some, None, length, find, slice_index_or}
use Rattle.std.specs.Option.{option_map}
use Rattle.rs01_layers.specs.Layout.{number_at}
use Rattle.rs01_layers.specs.declared.lists.Placed.{Placed}
use Rattle.rs01_layers.specs.declared.task.LayerOut.{LayerOut}
use Rattle.rs01_layers.specs.declared.task.LayerOut.TheVariants.{Parity, Restored, Beyond, Inconsistent, BadSum}
use Rattle.rs01_ecchead.specs.Header.{Fields}

abbrev pub is_restored : LayerOut → Bool
is_restored (Parity bytes) = false
is_restored (Restored blocks) = true
is_restored (Beyond n) = false
is_restored (Inconsistent b) = false
is_restored (BadSum p) = false

-- the first block of a list that has a place
abbrev pub block_of : List Placed → ℕ → Option (List ℕ)
block_of blocks p = option_map (λ found. found.block) (find (λ item. item.place == p) blocks)

-- the restored block of a place
abbrev pub restored_at : LayerOut → ℕ → Option (List ℕ)
restored_at (Parity bytes) p = None
restored_at (Restored blocks) p = block_of blocks p
restored_at (Beyond n) p = None
restored_at (Inconsistent b) p = None
restored_at (BadSum place) p = None

-- a block of 2048 bytes where it is wanted, and none else
abbrev pub IsBlockWhere : Bool → Option (List ℕ) → Type 0
IsBlockWhere true (Some block) = length block ≡ 2048
IsBlockWhere true None = ⊥
IsBlockWhere false (Some block) = ⊥
IsBlockWhere false None = Unit {0}

-- an answer that restores a layer has a block for exactly the erased places, and every other answer has none
abbrev pub HasBlocks : List Bool → LayerOut → Type 0
HasBlocks flags answer = (p : ℕ) → IsBlockWhere (slice_index_or flags p false && is_restored answer) (restored_at answer p)

-- a place that an answer names is that of a sector
abbrev pub NamesSector : Fields → ℕ → LayerOut → Type 0
NamesSector f l answer = (p : ℕ) → answer ≡ BadSum p → number_at f.sectors f.parity l p < f.sectors
