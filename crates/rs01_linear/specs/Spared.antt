-- What stays of an image file y, whatever the drives give.
use Rattle.std.specs.Prelude.{ℕ, ◌≡◌, ◌<◌, ◌≤◌, ◌⊎◌, ◌/◌, IsSomeAnd, IsTrue, IsOkAnd, List, None, Option, Result, Ok, Err, drop, false, true, get_or, length}
use Rattle.std.specs.Borrow.{Bor}
use Rattle.rs01_outside.specs.DeskState.{DeskState}
use Rattle.rs01_outside.specs.Files.{bytes_of}
use Rattle.rs01_rack.specs.Rack.{AllTell, RackState, views_of}
use Rattle.rs01_ecchead.specs.Erased.{Known, image_len, is_erased}
use Rattle.rs01_linear.specs.Marking.{is_left_out}
use Rattle.rs01_linear.specs.Medium.{IsKnownBy, Numbered, file_given, found}
use Rattle.rs01_linear.specs.declared.fate.Fate.{Fate}
use Rattle.rs01_linear.specs.declared.fate.Fate.TheVariants.{Kept}
use Rattle.rs01_linear.specs.declared.reading.Reading.{Reading}

-- byte k is to stay: it stands past the image, or in a sector that is good
abbrev pub IsToStay : Known → List ℕ → ℕ → Type 0
IsToStay known y k = (image_len known ≤ k) ⊎ (is_erased known y (k / 2048) ≡ false)

-- a later file isn't shorter, has the bytes that are to stay, and ends as before: behind the image it has the same bytes
-- and no others, and none where the file had none
pub record Spares (known : Known) (y later : List ℕ) : Type 0 where
  pub longer : length y ≤ length later
  pub surplus : drop (image_len known) later ≡ drop (image_len known) y
  pub same : (k : ℕ) → k < length y → IsToStay known y k → get_or later k 0 ≡ get_or y k 0

-- only sectors that weren't good may be asked for
abbrev pub AsksBad : Known → List ℕ → List Fate → Type 0
AsksBad known y fates = (s : ℕ) → s < known.sectors → is_left_out (get_or fates s Kept) ≡ true → is_erased known y s ≡ true

-- while sectors are passed: the file has these bytes, and only sectors that weren't good may be asked for
pub record Guards (known : Known) (y : List ℕ) (fates : List Fate) (file : Option (List ℕ)) : Type 0 where
  pub file_is : IsSomeAnd file (Spares known y)
  pub erased : AsksBad known y fates

-- the same of what is kept when the sectors below s were passed: those of the run weren't good either
pub record GuardsRun (known : Known) (y : List ℕ) (s : ℕ) (reading : Reading) (file : Option (List ℕ)) : Type 0 where
  pub guards : Guards known y reading.fates.items file
  pub run : (k : ℕ) → reading.first ≤ k → k < s → is_erased known y k ≡ true

-- how passing the sectors below s ends: after a fault what is good in the file stays
abbrev pub GuardsOn : {T E : Type 0} → Known → List ℕ → ℕ → Reading → Option (List ℕ) → Result T E → Type 0
GuardsOn known y s reading file (Ok value) = GuardsRun known y s reading file
GuardsOn known y s reading file (Err why) = IsSomeAnd file (Spares known y)

-- by what is known of the medium, which is what is found where the drives tell; without an error correction file it has as
-- many sectors as the drives gave
pub record IsSpared (given : Option (Option (List ℕ))) (y : List ℕ) (file : Option (List ℕ)) (old new : RackState) : Type 0 where
  pub known : Known
  pub known_is : IsKnownBy given known
  pub number : given ≡ None → Numbered known.sectors old new
  pub told : AllTell new → IsOkAnd (found given (views_of old)) (λ f. f.known ≡ known)
  pub spares : IsSomeAnd file (Spares known y)

-- where the desk tells: the image file is as it was, or what is good in it stays
abbrev pub StaysGood : (desk desk' : DeskState) → Option (Bor (List ℕ)) → List ℕ → (old new : RackState) → Type 0
StaysGood desk desk' ecc name old new =
    IsTrue desk.tells → (desk'.files name ≡ desk.files name) ⊎ IsSpared (file_given desk ecc) (bytes_of desk.files name) (desk'.files name) old new
