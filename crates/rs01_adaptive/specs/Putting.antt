-- Putting the restored blocks of a layer in place in an image file.
use Rattle.std.specs.Prelude.{ℕ, ◌≡◌, ◌-◌, ◌*◌, ◌<◌, ◌≤◌, ◌==◌, ◌&&◌, nat_lt, if◌then◌else◌, IfSome, IsTrue, List, Option, Some, None, Result, Ok, Err, drop, is_err, length, take}
use Rattle.rs01_lists.specs.Bytes.{part}
use Rattle.rs01_layers.specs.Layout.{layer_of, layers_of, place_of}
use Rattle.rs01_layers.specs.Sectors.{length_of}
use Rattle.rs01_layers.specs.declared.task.LayerOut.{LayerOut}
use Rattle.rs01_outside.specs.DeskState.{DeskState, OnlyChanges}
use Rattle.rs01_outside.specs.Files.{WritesAt, bytes_of}
use Rattle.rs01_outside.specs.declared.Failed.{Failed}
use Rattle.rs01_ecchead.specs.Erased.{Known, image_len, known_of}
use Rattle.rs01_ecchead.specs.declared.opened.Ecc.{Ecc}
use Rattle.rs01_repair.specs.Restored.{restored_at}
use Rattle.rs01_turns.specs.Leads.{IsBlend}

-- how many bytes a sector has, and these in a file
abbrev pub width_of : Known → ℕ → ℕ
width_of known s = length_of known.sectors known.last_bytes s

abbrev pub bytes_in : Known → List ℕ → ℕ → List ℕ
bytes_in known file s = part file (2048 * s) (width_of known s)

-- the sector's own bytes of its new block, where it has one, and else what it had
abbrev pub bytes_by : Known → ℕ → Option (List ℕ) → List ℕ → List ℕ
bytes_by known s None old = old
bytes_by known s (Some block) old = take (width_of known s) block

-- the sectors of a file that have new blocks have their bytes, and all else is as before
pub record HasPut (known : Known) (block : ℕ → Option (List ℕ)) (old file : List ℕ) : Type 0 where
  pub len : length file ≡ length old
  pub sectors : (s : ℕ) → s < known.sectors → bytes_in known file s ≡ bytes_by known s (block s) (bytes_in known old s)
  pub surplus : drop (image_len known) file ≡ drop (image_len known) old

-- each byte of a sector is the old one or that of its new block, and all else is as before
pub record IsPutting (known : Known) (block : ℕ → Option (List ℕ)) (old file : List ℕ) : Type 0 where
  pub len : length file ≡ length old
  pub sectors : (s : ℕ) → s < known.sectors → IsBlend (bytes_in known file s) (bytes_in known old s) (bytes_by known s (block s) (bytes_in known old s))
  pub surplus : drop (image_len known) file ≡ drop (image_len known) old

-- the restored blocks of layer l, by its answer, as far as its places below p go
abbrev pub block_below : Ecc → ℕ → LayerOut → ℕ → ℕ → Option (List ℕ)
block_below ecc l answer p s =
    if (layer_of ecc.head.sectors ecc.head.parity s == l) && nat_lt (place_of ecc.head.sectors ecc.head.parity s) p
    then restored_at answer (place_of ecc.head.sectors ecc.head.parity s)
    else None

-- all of them
abbrev pub new_block : Ecc → ℕ → LayerOut → ℕ → Option (List ℕ)
new_block ecc l answer s = block_below ecc l answer (255 - ecc.head.parity) s

-- each restored block is a whole one
abbrev pub HasWhole : LayerOut → Type 0
HasWhole answer = (p : ℕ) → IfSome (restored_at answer p) (λ block. length block ≡ 2048)

-- the number of a layer and of one of its places
pub record IsPlaceOf (ecc : Ecc) (l p : ℕ) : Type 0 where
  pub layer : l < layers_of ecc.head.sectors ecc.head.parity
  pub place : p < 255 - ecc.head.parity

-- a block that there may be is put in a sector's place: nothing else changes
pub record PutsBlock (ecc : Ecc) (s : ℕ) (block : Option (List ℕ)) (name : List ℕ) (old new : DeskState) (result : Result Unit Failed) : Type 0 where
  pub changes : OnlyChanges name old new (is_err result)
  pub none : IsTrue old.tells → block ≡ None → new.files ≡ old.files
  pub put : (bytes : List ℕ) → IsTrue old.tells → block ≡ Some bytes
      → WritesAt old.files new.files name (2048 * s) (take (width_of (known_of ecc) s) bytes) result

-- from a file with the blocks of the places below p to one with those below q, or on the way to that with all
abbrev pub PutsTo : Ecc → ℕ → LayerOut → ℕ → (old file : List ℕ) → Result Unit Failed → Type 0
PutsTo ecc l answer q old file (Ok u) = HasPut (known_of ecc) (block_below ecc l answer q) old file
PutsTo ecc l answer q old file (Err e) = IsPutting (known_of ecc) (new_block ecc l answer) old file

pub record PutsOn (ecc : Ecc) (l : ℕ) (answer : LayerOut) (p q : ℕ) (name : List ℕ) (old new : DeskState) (result : Result Unit Failed) : Type 0 where
  pub changes : OnlyChanges name old new (is_err result)
  pub put : (before : List ℕ) → IsTrue old.tells → image_len (known_of ecc) ≤ length before
      → HasPut (known_of ecc) (block_below ecc l answer p) before (bytes_of old.files name)
      → PutsTo ecc l answer q before (bytes_of new.files name) result

-- the restored blocks of a layer are put in place, or that fails on the way
abbrev pub PutsAll : Ecc → ℕ → LayerOut → (old file : List ℕ) → Result Unit Failed → Type 0
PutsAll ecc l answer old file result = PutsTo ecc l answer (255 - ecc.head.parity) old file result

pub record PutsLayer (ecc : Ecc) (l : ℕ) (answer : LayerOut) (name : List ℕ) (old new : DeskState) (result : Result Unit Failed) : Type 0 where
  pub changes : OnlyChanges name old new (is_err result)
  pub put : IsTrue old.tells → image_len (known_of ecc) ≤ length (bytes_of old.files name)
      → PutsAll ecc l answer (bytes_of old.files name) (bytes_of new.files name) result
