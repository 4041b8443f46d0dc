-- How a sector was found, by the tests of the image file.
use Rattle.std.proofs.Common.{◌≡◌, ℕ, List, refl, Bool, true, false, cond}
use Rattle.std.specs.Prelude.{not, ◌&&◌, ◌||◌, Option, IsTrue}
use Rattle.std.specs.Str.{bytes_eq}
use Rattle.rs01_sums.specs.Marker.{marker}
use Rattle.rs01_sums.specs.Usable.{is_usable}
use Rattle.rs01_ecchead.specs.Erased.{Known, block_in, is_absent, is_altered, is_erased, is_missing}
use Rattle.rs01_ecchead.specs.declared.condition.Condition.TheVariants.{Altered, Missing, Sound}
use Rattle.rs01_ecchead.specs.Condition.{IsJudgedByTheFile, condition_of, judged}
use Rattle.rs01_ecchead.proofs.ErasedLemmas.{unusable}

-- the three tests, from whether a sector is absent, whether its block is its marker, and whether the block is usable
by_tests : (absent marked usable : Bool) → (marked ≡ true → usable ≡ false)
    → cond (absent || marked) Missing (cond usable Sound Altered)
    ≡ cond (absent || marked) Missing (cond ((absent || not usable) && not (absent || marked)) Altered Sound)
by_tests true marked usable h = refl
by_tests false true usable h = refl
by_tests false false true h = refl
by_tests false false false h = refl

-- a block is judged as the tests of the file say
pub judged_is : (known : Known) (y : List ℕ) (s : ℕ) (there : Bool) (sums : Option (List ℕ)) (b : List ℕ) → sums ≡ known.sums
    → is_absent known y s ≡ not there → (IsTrue there → b ≡ block_in known y s) → judged there sums s b ≡ condition_of known y s
unfolding is_missing is_altered is_erased
judged_is known y s true sums b e absent same =
    rw (same refl, e, absent) (by_tests false (bytes_eq (block_in known y s) (marker s)) (is_usable known.sums s (block_in known y s)) (unusable (bytes_eq (block_in known y s) (marker s)) _))
judged_is known y s false sums b e absent same = rw absent refl

double_not : (b : Bool) → b ≡ not (not b)
double_not true = refl
double_not false = refl

pub judged_by_the_file : IsJudgedByTheFile
judged_by_the_file known y s =
    judged_is known y s (not (is_absent known y s)) known.sums (block_in known y s) refl (double_not (is_absent known y s)) (λ h. refl)
