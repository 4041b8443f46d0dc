-- What is kept of an image file whose sectors are judged in rising order.
use Rattle.std.specs.Prelude.{ℕ, ◌≡◌, List, length, map}
use Rattle.std.specs.List.{range_with_len}
use Rattle.rs01_ecchead.specs.Shown.{Shown, shown_in}
use Rattle.rs01_ecchead.specs.declared.condition.Condition.{Condition}
use Rattle.rs01_ecchead.specs.declared.condition.Condition.TheVariants.{Altered, Missing, Sound}
use Rattle.rs01_linear.specs.Left.{first_fate}
use Rattle.rs01_linear.specs.Medium.{known_of}
use Rattle.rs01_linear.specs.declared.fate.Fate.{Fate}
use Rattle.rs01_linear.specs.declared.fate.Fate.TheVariants.{Kept, LeftOut}
use Rattle.rs01_linear.specs.declared.medium.Medium.{Medium}

-- a sector that was found good is kept, and any other one isn't asked for yet
abbrev pub fate_by : Condition → Fate
fate_by Sound = Kept
fate_by Missing = LeftOut
fate_by Altered = LeftOut

-- the first n sectors of an image that was shown, of whatever file it is
abbrev pub JudgedShown : Medium → Shown → ℕ → List Fate → Type 0
JudgedShown medium image n fates =
    (y : List ℕ) → image ≡ shown_in y medium.extent.sectors medium.extent.last_bytes (length y) → fates ≡ map (first_fate (known_of medium) y) (range_with_len 0 n)
