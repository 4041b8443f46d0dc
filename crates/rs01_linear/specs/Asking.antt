-- Asking drives for a sector until one gives a block that may stand for it.
use Rattle.std.specs.Prelude.{ℕ, ◌≡◌, ◌||◌, Bool, false, true, List, [], ◌∷◌, Option, Some, None, is_some, if◌then◌else◌, take}
use Rattle.std.specs.Option.{option_map}
use Rattle.rs01_lists.specs.Bytes.{padded}
use Rattle.rs01_layers.specs.Sectors.{length_of}
use Rattle.rs01_sums.specs.Usable.{is_usable}
use Rattle.rs01_outside.specs.DriveView.{Answer, DriveView}
use Rattle.rs01_layers.specs.declared.extent.Extent.{Extent}
use Rattle.rs01_rack.specs.Asking.{Tried, try_drive}
use Rattle.rs01_rack.specs.Rack.{AllTell, RackState, views_of}
use Rattle.rs01_ecchead.specs.Erased.{Known}
use Rattle.rs01_linear.specs.Lasting.{RackLasts}
use Rattle.rs01_linear.specs.declared.asking.Asked.{Asked}
use Rattle.rs01_linear.specs.declared.asking.Asked.TheVariants.{Altered, Read, Unreadable}

-- a drive's answer as the block of a sector: the sector's own bytes, and zeros up to 2048
abbrev pub as_block : Known → ℕ → List ℕ → List ℕ
as_block known s bytes = padded 2048 (take (length_of known.sectors known.last_bytes s) bytes)

-- whether an answer is a block that may stand for the sector
abbrev pub is_good : Known → ℕ → Answer → Bool
is_good known s None = false
is_good known s (Some bytes) = is_usable known.sums s (as_block known s bytes)

-- what an asking comes to: the drives after it, the block that was read if one was, and whether any drive answered
pub record Asking : Type 0 where
  pub views : List DriveView
  pub read : Option (List ℕ)
  pub answered : Bool

-- a drive gave nothing good, and the drives behind it were asked
abbrev pub after_vain : Tried → Asking → Asking
after_vain tried rest = record {
  views = tried.view ∷ rest.views;
  read = rest.read;
  answered = is_some tried.block || rest.answered;
}

-- the drives are asked in order, each until it answers and so many times at most; the first good answer ends the asking
unfoldable pub ask_drives : Known → ℕ → ℕ → List DriveView → Asking
ask_drives known s tries [] = record { views = []; read = None; answered = false }
ask_drives known s tries (view ∷ views) =
    let tried = try_drive view s tries in
    if is_good known s tried.block
    then record { views = tried.view ∷ views; read = option_map (as_block known s) tried.block; answered = true }
    else after_vain tried (ask_drives known s tries views)

-- a sector was read, or no drive answered, or one did and none with a good block
abbrev pub kind_of : Asking → Asked
kind_of asking = if is_some asking.read then Read else if asking.answered then Altered else Unreadable

-- what is known of a medium by how far it goes and by the recorded checksums
abbrev pub known_with : Extent → Option (List ℕ) → Known
known_with extent sums = record { sectors = extent.sectors; last_bytes = extent.last_bytes; sums = sums }

-- drives are left with these views, this is the answer and, where a sector was read, this is its block
pub record ComesTo (asking : Asking) (block : List ℕ) (asked : Asked) (views : List DriveView) : Type 0 where
  pub views_are : views ≡ asking.views
  pub answer : asked ≡ kind_of asking
  pub block_is : asked ≡ Read → asking.read ≡ Some block

-- the drives of a rack were asked for a sector
pub record Asks (known : Known) (s tries : ℕ) (block : List ℕ) (asked : Asked) (old new : RackState) : Type 0 where
  pub lasts : RackLasts old new
  pub told : AllTell new → ComesTo (ask_drives known s tries (views_of old)) block asked (views_of new)
