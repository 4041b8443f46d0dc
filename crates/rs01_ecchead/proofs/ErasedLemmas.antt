-- Missing and altered sectors are the erased ones.
use Rattle.std.proofs.Common.{◌≡◌, ℕ, List, refl, Bool, true, false}
use Rattle.std.specs.Prelude.{not, ◌&&◌, ◌||◌}
use Rattle.std.specs.Str.{bytes_eq}
use Rattle.rs01_sums.specs.Marker.{marker}
use Rattle.rs01_sums.specs.Usable.{is_usable}
use Rattle.rs01_ecchead.specs.Erased.{Known, ErasedIsMissingOrAltered, MissingIsNotAltered, block_in, is_absent, is_altered, is_erased, is_missing}

-- a marker isn't usable
pub unusable : (marked rest : Bool) → marked ≡ true → (not marked && rest) ≡ false
unusable true rest e = refl
unusable false rest e = cc

erased_by_tests : (absent marked usable : Bool) → (marked ≡ true → usable ≡ false) → (absent || marked) ≡ true → (absent || not usable) ≡ true
erased_by_tests true marked usable h e = refl
erased_by_tests false true true h e = cc (h refl)
erased_by_tests false true false h e = refl
erased_by_tests false false usable h e = cc

pub missing_is_erased : (known : Known) (y : List ℕ) (s : ℕ) → is_missing known y s ≡ true → is_erased known y s ≡ true
unfolding is_missing is_erased
missing_is_erased known y s e =
    erased_by_tests (is_absent known y s) (bytes_eq (block_in known y s) (marker s)) (is_usable known.sums s (block_in known y s))
    (unusable (bytes_eq (block_in known y s) (marker s)) _) e

either_by : (missing erased : Bool) → (missing ≡ true → erased ≡ true) → erased ≡ (missing || (erased && not missing))
either_by true erased h = h refl
either_by false true h = refl
either_by false false h = refl

pub erased_is_missing_or_altered : ErasedIsMissingOrAltered
unfolding is_altered
erased_is_missing_or_altered known y s = either_by (is_missing known y s) (is_erased known y s) (missing_is_erased known y s)

not_both_by : (missing erased : Bool) → (missing && (erased && not missing)) ≡ false
not_both_by true true = refl
not_both_by true false = refl
not_both_by false erased = refl

pub missing_is_not_altered : MissingIsNotAltered
unfolding is_altered
missing_is_not_altered known y s = not_both_by (is_missing known y s) (is_erased known y s)
