-- The answers of a window.
use Rattle.std.proofs.Common.{◌≡◌, ℕ, zero, suc, ◌+◌, ◌<◌, List, [], ◌∷◌, ◌++◌, length, get_or, refl, sym, ap, ◌∙◌, subst, arith, Bool, true, false, ⊎_elim}
use Rattle.std.specs.Prelude.{IfSome, Option, Some, None, slice_get, ◌&&◌}
use Rattle.std.proofs.lemmas.Bool.{cases_eq}
use Rattle.rs01_layers.specs.Layout.{layer_of, number_at, place_of}
use Rattle.rs01_layers.specs.declared.input.LayerInput.{LayerInput}
use Rattle.rs01_layers.specs.declared.task.LayerOut.{LayerOut}
use Rattle.rs01_erase.specs.Correcting.{blocks_in, correct}
use Rattle.rs01_repair.specs.Finding.{Sources, answer_to, fields_in, is_gone_in}
use Rattle.rs01_repair.specs.Inputs.{flags_at}
use Rattle.rs01_repair.specs.Restored.{IsBlockWhere, NamesSector, is_restored, restored_at}
use Rattle.rs01_repair.specs.declared.found.Found.{Found}
use Rattle.rs01_repair.proofs.CorrectLemmas.{bad_sum_flagged, correct_has_blocks}
use Rattle.rs01_ecchead.proofs.Shapes.{is_shape}
use Rattle.rs01_repair.proofs.InputLemmas.{flag_of_sector}
use Rattle.rs01_repair.proofs.Numbered.{one_more, one_more_piece}
use Rattle.rs01_fix.specs.Places.{HasWholeBlocks}
use Rattle.rs01_fix.specs.Repair.{strange_in}
use Rattle.rs01_fix.specs.Steps.{Adds, AreKept, FlagsLayer}
use Rattle.rs01_fix.specs.Windows.{IsAnswer, IsAnswerOf}
use Rattle.rs01_fix.specs.declared.repairs.Repairs.{Repairs}

whole_where : (w : Bool) (o : Option (List ℕ)) → IsBlockWhere w o → IfSome o (λ b. length b ≡ 2048)
whole_where true (Some b) is = is
whole_where true None is = absurd is
whole_where false (Some b) is = absurd is
whole_where false None is = tt

-- what correcting gives has whole blocks
pub whole_blocks : (input : LayerInput) (answer : LayerOut) → answer ≡ correct input → HasWholeBlocks answer
unfolding correct
whole_blocks input answer e p =
    subst (λ (a : LayerOut). IfSome (restored_at a p) (λ b. length b ≡ 2048)) (sym e)
    (whole_where (get_or input.erased p false && is_restored (correct input)) (restored_at (correct input) p)
    (correct_has_blocks (blocks_in input) input.erased input.sums input.parity input.parity_count p))

-- and names no padding
pub names_sector : (found : Found) (l : ℕ) (input : LayerInput) (answer : LayerOut) → IsAnswer found l input answer → NamesSector (fields_in found) l answer
unfolding correct
names_sector found l input answer is p same =
    subst (λ (m : ℕ). number_at found.ecc.head.sectors found.ecc.head.parity m p < found.ecc.head.sectors) is.layer
    (is.shape.padding p (bad_sum_flagged (blocks_in input) input.erased input.sums input.parity input.parity_count p (sym is.value ∙ same)))

-- an item of a list
pub item_at : {A : Type 0} (xs : List A) (i : ℕ) → i < length xs → (x : A) × (slice_get xs i ≡ Some x)
item_at [] i low = absurd (omega arith)
item_at (x ∷ xs) zero low = (x, refl)
item_at (x ∷ xs) (suc i) low = item_at xs i (omega arith)

-- what is kept of one more layer
pub kept_more : (found : Found) (was : Sources found) (l : ℕ) (input : LayerInput) (answer : LayerOut) (old flagged new : Repairs)
    → IsAnswerOf found was l input answer → AreKept found was l old → FlagsLayer found l input.erased old.erased.items flagged.erased.items
    → flagged.restored ≡ old.restored → flagged.strange ≡ old.strange → Adds found l answer flagged new → new.erased ≡ flagged.erased
    → AreKept found was (l + 1) new
kept_more found was l input answer old flagged new is kept flags restored strange adds erased =
    let n = found.ecc.head.sectors in
    let r = found.ecc.head.parity in
    record {
      erased = λ s below low.
          ap (λ v. get_or v.items s false) erased
          ∙ ⊎_elim
          (λ (here : layer_of n r s ≡ l).
          flags.here s below here ∙ ap (λ fl. get_or fl (place_of n r s) false) (is.erased ∙ ap (λ k. flags_at (fields_in found) (is_gone_in found was) k) (sym here))
          ∙ flag_of_sector (fields_in found) (is_gone_in found was) s (is_shape found.ecc) below)
          (λ other. flags.others s below other ∙ kept.erased s below (omega (arith, other, low)))
          (cases_eq (layer_of n r s) l);
      restored = one_more (λ k. is_restored (answer_to found was k)) old.restored.items new.restored.items (is_restored answer) l kept.restored
          (ap is_restored is.answer_is) (adds.restored ∙ ap (λ v. v.items ++ is_restored answer ∷ []) restored);
      strange_are = one_more_piece (λ k. strange_in (fields_in found) k (answer_to found was k)) old.strange.items new.strange.items (strange_in (fields_in found) l answer) l kept.strange_are
          (ap (strange_in (fields_in found) l) is.answer_is) (adds.strange ∙ ap (λ v. v.items ++ strange_in (fields_in found) l answer) strange);
    }
