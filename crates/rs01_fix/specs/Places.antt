-- What putting the sectors of a layer in place leaves. s is the number of a sector, and name is that of the image file.
use Rattle.std.specs.Prelude.{ℕ, ◌≡◌, ◌*◌, true, false, IfSome, IsTrue, List, Option, Some, None, Result, is_err, length, take}
use Rattle.rs01_layers.specs.Sectors.{length_of}
use Rattle.rs01_layers.specs.declared.task.LayerOut.{LayerOut}
use Rattle.rs01_outside.specs.DeskState.{DeskState, OnlyChanges}
use Rattle.rs01_outside.specs.Files.{Files, WritesAt}
use Rattle.rs01_outside.specs.declared.Failed.{Failed}
use Rattle.rs01_sums.specs.Marker.{marker}
use Rattle.rs01_ecchead.specs.Erased.{known_of}
use Rattle.rs01_repair.specs.Finding.{Sources, answer_to, is_past}
use Rattle.rs01_repair.specs.Restored.{restored_at}
use Rattle.rs01_repair.specs.declared.found.Found.{Found}
use Rattle.rs01_fix.specs.Steps.{IsBefore, IsEitherWay, Leads}

-- the bytes of a sector are written, which are the first ones of a block
abbrev pub WritesBlock : Found → ℕ → (block name : List ℕ) → (old new : Files) → Result Unit Failed → Type 0
WritesBlock found s block name old new result =
    WritesAt old new name (2048 * s) (take (length_of found.ecc.head.sectors found.ecc.head.last_bytes s) block) result

-- the marker of a sector is written where it was absent, and else nothing
pub record Marks (found : Found) (s : ℕ) (name : List ℕ) (old new : Files) (result : Result Unit Failed) : Type 0 where
  pub marked : is_past (known_of found.ecc) found.size s ≡ true → WritesBlock found s (marker s) name old new result
  pub kept : is_past (known_of found.ecc) found.size s ≡ false → new ≡ old

-- the restored block of a sector is written, or what is written of one that has none
abbrev pub Writes : Found → ℕ → (block : Option (List ℕ)) → (name : List ℕ) → (old new : Files) → Result Unit Failed → Type 0
Writes found s (Some block) name old new result = WritesBlock found s block name old new result
Writes found s None name old new result = Marks found s name old new result

-- and no other file changes
pub record PutsSector (found : Found) (s : ℕ) (block : Option (List ℕ)) (name : List ℕ) (old new : DeskState) (result : Result Unit Failed) : Type 0 where
  pub changes : OnlyChanges name old new (is_err result)
  pub puts : IsTrue old.tells → Writes found s block name old.files new.files result

-- the restored blocks of an answer have 2048 bytes each
abbrev pub HasWholeBlocks : LayerOut → Type 0
HasWholeBlocks answer = (p : ℕ) → IfSome (restored_at answer p) (λ block. length block ≡ 2048)

-- by the answer to layer l the repair goes on from its place p to place q of layer m, and no other file changes
pub record PutsOn (found : Found) (answer : LayerOut) (l p m q : ℕ) (name : List ℕ) (old new : DeskState) (result : Result Unit Failed) : Type 0 where
  pub changes : OnlyChanges name old new (is_err result)
  pub put : (was : Sources found) → answer ≡ answer_to found was l
      → Leads (IsBefore found was l p) (IsBefore found was m q) (IsEitherWay found was) name old new result
