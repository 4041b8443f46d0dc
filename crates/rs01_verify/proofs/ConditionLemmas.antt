-- What a sector adds to the lists and counts, by the tests of the image file.
use Rattle.std.proofs.Common.{◌≡◌, ℕ, List, [], ◌∷◌, refl, Bool, true, false, cond}
use Rattle.std.specs.Prelude.{not, ◌&&◌, slice_index, slice_set, ◌+◌}
use Rattle.rs01_ecchead.specs.Condition.{condition_of}
use Rattle.rs01_ecchead.specs.Erased.{Known, is_altered, is_erased, is_missing}
use Rattle.rs01_ecchead.specs.declared.condition.Condition.TheVariants.{Altered, Missing, Sound}
use Rattle.rs01_ecchead.proofs.ErasedLemmas.{missing_is_erased}
use Rattle.rs01_verify.specs.Tallied.{altered_part, counts_after, missing_part}

missing_part_by : (missing altered : Bool) (s : ℕ) → missing_part (cond missing Missing (cond altered Altered Sound)) s ≡ cond missing (s ∷ []) []
missing_part_by true altered s = refl
missing_part_by false true s = refl
missing_part_by false false s = refl

pub missing_part_is : (known : Known) (y : List ℕ) (s : ℕ) → missing_part (condition_of known y s) s ≡ cond (is_missing known y s) (s ∷ []) []
missing_part_is known y s = missing_part_by (is_missing known y s) (is_altered known y s) s

altered_part_by : (missing erased : Bool) (s : ℕ)
    → altered_part (cond missing Missing (cond (erased && not missing) Altered Sound)) s ≡ cond (erased && not missing) (s ∷ []) []
altered_part_by true true s = refl
altered_part_by true false s = refl
altered_part_by false true s = refl
altered_part_by false false s = refl

pub altered_part_is : (known : Known) (y : List ℕ) (s : ℕ) → altered_part (condition_of known y s) s ≡ cond (is_altered known y s) (s ∷ []) []
unfolding is_altered
altered_part_is known y s = altered_part_by (is_missing known y s) (is_erased known y s) s

counts_after_by : (missing erased : Bool) (l : ℕ) (counts : List ℕ) → (missing ≡ true → erased ≡ true)
    → counts_after (cond missing Missing (cond (erased && not missing) Altered Sound)) l counts ≡ cond erased (slice_set counts l (slice_index counts l + 1)) counts
counts_after_by true true l counts h = refl
counts_after_by true false l counts h = cc (h refl)
counts_after_by false true l counts h = refl
counts_after_by false false l counts h = refl

pub counts_after_is : (known : Known) (y : List ℕ) (s l : ℕ) (counts : List ℕ)
    → counts_after (condition_of known y s) l counts ≡ cond (is_erased known y s) (slice_set counts l (slice_index counts l + 1)) counts
unfolding is_altered
counts_after_is known y s l counts = counts_after_by (is_missing known y s) (is_erased known y s) l counts (missing_is_erased known y s)
