-- Lists at the end of a window.
use Rattle.std.proofs.Common.{slice_get, map, All, true, ◌≡◌, ℕ, zero, suc, ◌+◌, ◌<◌, List, [], ◌∷◌, ◌++◌, length, sym, refl, ap, ◌∙◌, arith, ⊎_elim, Some, None, subst}
use mathlib.Core.Option.{some, some-injective}
use lib.ListN.{get_elem?}
use Rattle.std.proofs.lemmas.Bool.{cases_lt}
use Rattle.atomic_table.proofs.Lists.{at_longer, at_last}
use Rattle.rs01_table.specs.declared.given.Given.{Given}
use Rattle.rs01_table.specs.declared.given.Given.TheVariants.{Left}
use Rattle.rs01_table.specs.declared.views.Gave.{Gave}
use Rattle.rs01_layers.specs.declared.input.LayerInput.{LayerInput}
use Rattle.rs01_window.proofs.ListLemmas.{some_same}
use Rattle.std.proofs.lemmas.List.Elements.{All-nil, All-cons}
use Rattle.rs01_table.proofs.ShownLemmas.{read}
use Rattle.rs01_table.specs.Views.{Answers, source, IsRight, Slot}
use Rattle.rs01_table.specs.Rule.{Rule}
use Rattle.rs01_table.specs.Ending.{Ended}
use Rattle.rs01_table.specs.Ending.{AllLaid, AreCollected}
use Rattle.rs01_table.proofs.PartLemmas.{position}
use Rattle.rs01_table.proofs.EndLemmas.{EndsIn, ends}
use Rattle.atomic_table.specs.Table.{Final, Seen}
use Rattle.rs01_table.specs.declared.views.View.{View}
use Rattle.rs01_layers.specs.declared.task.LayerOut.{LayerOut}

abbrev unwrapped : Given → Slot → Given
unwrapped d None = d
unwrapped d (Some x) = x

pub what_is : (x y : Given) → Some x ≡ Some y → x ≡ y
what_is x y e = ap (unwrapped x) e

pub collected_more : (n : ℕ) (xs : List Slot) (results : List Given) (given : Given) → length results ≡ n → AreCollected n xs results → get_elem? xs n ≡ some (Some given) → AreCollected (n + 1) xs (results ++ given ∷ [])
collected_more n xs results given long old there k what h e = ⊎_elim
    (λ below. at_longer results (given ∷ []) k what (old k what below e))
    (λ beyond.
    let here : k ≡ n = omega arith in
    let same : Some what ≡ Some given = some-injective (Some what) (Some given) (sym e ∙ ap (get_elem? xs) here ∙ there) in
    ap (get_elem? (results ++ given ∷ [])) here ∙ at_last results given n long ∙ ap some (sym (what_is what given same)))
    (cases_lt k n)

module _ (fit : LayerInput → Type 0) (value : LayerInput → LayerOut) where
  pub closing : (id : ℕ) (v : View) (ws : List ℕ) (xs : List Slot) (posted : List LayerInput) (given : List Gave) → v.posts ≡ true → v.got ≡ [] → v.posted ≡ posted → v.given ≡ given → length v.numbers ≡ v.workers
      → Final (Seen (Rule fit value) id v) ws xs → EndsIn fit value posted given xs
  closing id v ws xs posted given is none_v p g all f = subst (λ (z : List LayerInput × List Gave). EndsIn fit value z.0 z.1 xs) (λ i. (p i, g i)) (ends fit value id v ws xs is none_v all f)

  pub all_laid : (posted : List LayerInput) (given : List Gave) (xs : List Slot) → EndsIn fit value posted given xs → AllLaid (length posted) xs
  all_laid posted given xs f k h = let z = at_below posted k h in let r = f.each k z.0 z.1 in (r.0, r.1)
    where
      at_below : (l : List LayerInput) (k : ℕ) → k < length l → (a : LayerInput) × (get_elem? l k ≡ some a)
      at_below [] k h = absurd (omega arith)
      at_below (x ∷ xs) zero h = (x, refl)
      at_below (x ∷ xs) (suc k) h = at_below xs k (omega arith)

  -- what comes back of the posted inputs is the posted inputs, in order
  listed : (posted : List LayerInput) (results : List Given) → length results ≡ length posted
      → ((k : ℕ) (i : LayerInput) → get_elem? posted k ≡ some i → (what : Given) × (get_elem? results k ≡ some what) × Answers value i what)
      → (map source results ≡ posted) × All (IsRight value) results
  listed [] [] e h = (refl, All-nil (IsRight value))
  listed [] (g ∷ gs) e h = absurd (omega arith)
  listed (i ∷ is) [] e h = absurd (omega arith)
  listed (i ∷ is) (g ∷ gs) e h =
      let z = h 0 i refl in
      let same : g ≡ z.0 = some-injective g z.0 z.1 in
      let one = subst (Answers value i) (sym same) z.2 in
      let r = listed is gs (omega arith) (λ k j e'. h (suc k) j e') in
      ((λ q. one.0 q ∷ r.0 q), All-cons (IsRight value) g gs one.1 r.1)

  pub ended : (posted : List LayerInput) (given : List Gave) (xs : List Slot) (results : List Given) → EndsIn fit value posted given xs → length results ≡ length posted → AreCollected (length posted) xs results → Ended value posted given results
  ended posted given xs results f long same =
      let all = listed posted results long (λ k i e. let r = f.each k i e in (r.0, same k r.0 (position fit value posted k i e) r.1, r.2)) in
      record {
        inputs = all.0;
        values = all.1;
        back = λ j g e. let at = found given j g e in read results g.ticket g.what (same g.ticket g.what (f.within j g at) (f.back j g at));
        left = λ k i e h. let at = found posted k i e in read results k (Left i) (same k (Left i) (position fit value posted k i at) (f.left k i at h));
      }
    where
      found : {A : Type 0} (l : List A) (k : ℕ) (a : A) → slice_get l k ≡ Some a → get_elem? l k ≡ some a
      found [] k a e = absurd cc
      found (x ∷ xs) zero a e = ap some (some_same x a e)
      found (x ∷ xs) (suc k) a e = found xs k a e
