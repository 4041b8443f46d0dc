-- Judging the sectors of an image file in rising order.
use Rattle.std.proofs.Common.{◌≡◌, ℕ, ◌+◌, ◌*◌, ◌∙◌, ap, arith, sym, refl, Bool, true, false, cond, List, [], ◌∷◌, ◌++◌, length, map, leb, ltb, ⊎_elim, add-one}
use Rattle.std.specs.Prelude.{not, ◌||◌, Option}
use Rattle.std.specs.List.{range_with_len}
use Rattle.std.proofs.lemmas.Bool.{cases_lt, lt-ltb, le-ltb, lt-leb, le-leb}
use Rattle.std.proofs.lemmas.List.{map-append}
use Rattle.rs01_layers.specs.Sectors.{length_of}
use Rattle.rs01_lists.proofs.Ranges.{range_with_len_more}
use Rattle.rs01_ecchead.specs.Condition.{condition_of, judged}
use Rattle.rs01_ecchead.specs.Erased.{Known, is_altered, is_missing}
use Rattle.rs01_ecchead.specs.Shown.{IsSector, Shown, shown_in}
use Rattle.rs01_ecchead.specs.declared.condition.Condition.TheVariants.{Altered, Missing, Sound}
use Rattle.rs01_ecchead.proofs.ConditionLemmas.{judged_is}
use Rattle.rs01_ecchead.proofs.ErasedLemmas.{erased_is_missing_or_altered}
use Rattle.rs01_linear.specs.Judged.{fate_by}
use Rattle.rs01_linear.specs.Left.{first_fate}
use Rattle.rs01_linear.specs.declared.fate.Fate.{Fate}
use Rattle.rs01_linear.specs.declared.fate.Fate.TheVariants.{Kept, LeftOut}

by_kinds : (missing altered : Bool) → fate_by (cond missing Missing (cond altered Altered Sound)) ≡ cond (missing || altered) LeftOut Kept
by_kinds true altered = refl
by_kinds false true = refl
by_kinds false false = refl

pub first_fate_is : (known : Known) (y : List ℕ) (s : ℕ) → fate_by (condition_of known y s) ≡ first_fate known y s
first_fate_is known y s =
    by_kinds (is_missing known y s) (is_altered known y s) ∙ sym (ap (λ b. cond b LeftOut Kept) (erased_is_missing_or_altered known y s))

absent_is : (end len : ℕ) → ltb len end ≡ not (leb end len)
absent_is end len =
    ⊎_elim
    (λ l. lt-ltb len end l ∙ sym (ap not (lt-leb end len l)))
    (λ l. le-ltb len end l ∙ sym (ap not (le-leb end len l)))
    (cases_lt len end)

-- a sector that was shown is judged as the file says
pub shown_fate : (known : Known) (y : List ℕ) (image : Shown) (s : ℕ) (there : Bool) (len : ℕ) (sums : Option (List ℕ)) (bytes : List ℕ)
    → sums ≡ known.sums → image ≡ shown_in y known.sectors known.last_bytes (length y) → IsSector image s there len bytes
    → fate_by (judged there sums s bytes) ≡ first_fate known y s
shown_fate known y image s there len sums bytes same e shown =
    let end = 2048 * s + length_of known.sectors known.last_bytes s in
    let is_there : there ≡ leb end (length y) = shown.there ∙ ap (λ (i : Shown). i.there s) e in
    ap fate_by (judged_is known y s there sums bytes same (absent_is end (length y) ∙ ap not (sym is_there)) (λ h. shown.block_of h ∙ ap (λ (i : Shown). i.block_of s) e))
    ∙ first_fate_is known y s

pub fates_more : (f : ℕ → Fate) (s : ℕ) (fate : Fate) (old new : List Fate) → old ≡ map f (range_with_len 0 s) → fate ≡ f s → new ≡ old ++ fate ∷ []
    → new ≡ map f (range_with_len 0 (s + 1))
fates_more f s fate old new held is put =
    put ∙ (λ i. held i ++ is i ∷ [])
    ∙ sym (ap (λ n. map f (range_with_len 0 n)) (add-one s) ∙ ap (map f) (range_with_len_more 0 s ∙ ap (λ k. range_with_len 0 s ++ k ∷ []) (let e : 0 + s ≡ s = omega arith in e))
    ∙ map-append f (range_with_len 0 s) (s ∷ []))
