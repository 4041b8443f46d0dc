-- What holds of each answer that correcting gives.
use Rattle.std.proofs.Common.{◌≡◌, ℕ, zero, suc, ◌+◌, ◌-◌, ◌<◌, List, [], ◌∷◌, length, get_or, sym, ap, ◌∙◌, subst, arith, Bool, true, false, refl, cond, ⊎_elim}
use Rattle.std.specs.Prelude.{find, Option, Some, None, nat_lt, not, ◌==◌, ◌&&◌}
use Rattle.std.specs.Option.{option_map_or}
use Rattle.std.proofs.lemmas.Bool.{cases_eq, cases_lt, false≢true, le-ltb}
use Rattle.std.proofs.lemmas.List.{get_or_past}
use Rattle.std.proofs.lemmas.List.FromFn.{get_or-map-range_with_len}
use Rattle.rs01_layers.specs.declared.lists.Placed.{Placed}
use Rattle.rs01_layers.specs.declared.task.LayerOut.TheVariants.{Restored, Beyond, Inconsistent, BadSum}
use Rattle.rs01_sums.specs.Crc.{crc}
use Rattle.rs01_erase.specs.LayerValue.{correct_of, erased_places, first_bad_sum, first_inconsistent, placed, restored_block}
use Rattle.rs01_erase.proofs.ErasedPlaces.{erased_flagged, flagged_erased}
use Rattle.rs01_erase.proofs.LayerValueLemmas.{restored_block-is_block}
use Rattle.rs01_ecchead.specs.Header.{Fields}
use Rattle.rs01_ecchead.specs.Opened.{Opened}
use Rattle.rs01_repair.specs.Inputs.{answer_of, blocks_at, flag_at, flags_at, parity_at, place_number, sums_at}
use Rattle.rs01_repair.specs.Restored.{HasBlocks, IsBlockWhere, NamesSector, block_of, is_restored, restored_at}
use Rattle.rs01_repair.proofs.InputLemmas.{length-flags_at}
use Rattle.rs01_repair.proofs.PlacedLemmas.{first_has_place, first_has_another}

pub both_parts : (a b : Bool) → a && b ≡ true → (a ≡ true) × (b ≡ true)
both_parts true true e = (refl, refl)
both_parts true false e = cc e
both_parts false b e = cc e

-- the block of one of the places
pub placed_has : (block : ℕ → List ℕ) (places : List ℕ) (p k : ℕ) → k < length places → get_or places k p ≡ p → block_of (placed block places) p ≡ Some (block p)
placed_has block [] p k h e = absurd (omega arith)
placed_has block (q ∷ qs) p zero h e =
    first_has_place (record { place = q; block = block q }) (placed block qs) p e ∙ ap (λ k. Some (block k)) e
placed_has block (q ∷ qs) p (suc k) h e =
    ⊎_elim
    (λ same. first_has_place (record { place = q; block = block q }) (placed block qs) p same ∙ ap (λ k. Some (block k)) same)
    (λ ne. first_has_another (record { place = q; block = block q }) (placed block qs) p ne ∙ placed_has block qs p k (omega arith) e)
    (cases_eq q p)

-- a place that isn't among them has none
pub placed_lacks : (block : ℕ → List ℕ) (places : List ℕ) (p : ℕ) → ((k : ℕ) → k < length places → get_or places k 0 ≡ p → ⊥) → block_of (placed block places) p ≡ None
placed_lacks block [] p out = refl
placed_lacks block (q ∷ qs) p out =
    first_has_another (record { place = q; block = block q }) (placed block qs) p (out 0 (omega arith))
    ∙ placed_lacks block qs p (λ k below same. out (suc k) (omega arith) same)

wanted : (flag : Bool) (o : Option (List ℕ)) (block : List ℕ) → length block ≡ 2048 → (flag ≡ true → o ≡ Some block) → (flag ≡ false → o ≡ None) → IsBlockWhere (flag && true) o
wanted true o block long some none = subst (λ (o : Option (List ℕ)). IsBlockWhere true o) (sym (some refl)) long
wanted false o block long some none = subst (λ (o : Option (List ℕ)). IsBlockWhere false o) (sym (none refl)) tt

unwanted : (flag : Bool) → IsBlockWhere (flag && false) None
unwanted true = tt
unwanted false = tt

chosen : (b : Bool) (n : ℕ) (o o' : Option ℕ) (list : List Placed) (flag : Bool) (p : ℕ) → IsBlockWhere (flag && true) (block_of list p)
    → IsBlockWhere (flag && is_restored (cond b (Beyond n) (option_map_or (λ c. Inconsistent c) o (option_map_or (λ q. BadSum q) o' (Restored list)))))
    (restored_at (cond b (Beyond n) (option_map_or (λ c. Inconsistent c) o (option_map_or (λ q. BadSum q) o' (Restored list)))) p)
chosen true n o o' list flag p has = unwanted flag
chosen false n (Some c) o' list flag p has = unwanted flag
chosen false n None (Some q) list flag p has = unwanted flag
chosen false n None None list flag p has = has

pub correct_has_blocks : (blocks : List (List ℕ)) (flags : List Bool) (sums parity : List ℕ) (r : ℕ) → HasBlocks flags (correct_of blocks flags sums parity r)
unfolding correct_of
correct_has_blocks blocks flags sums parity r p =
    let block = restored_block blocks flags parity r in
    let places = erased_places flags in
    chosen (nat_lt r (length places)) (length places) (first_inconsistent blocks flags parity r) (first_bad_sum blocks flags sums parity r) (placed block places) (get_or flags p false) p
    (wanted (get_or flags p false) (block_of (placed block places) p) (block p) (restored_block-is_block blocks flags parity r p).0
    (λ set_flag. let among = flagged_erased flags p set_flag in placed_has block places p among.0 among.1 among.2)
    (λ clear. placed_lacks block places p (λ k below same. false≢true (sym clear ∙ ap (λ q. get_or flags q false) (sym same) ∙ erased_flagged flags k below))))

pub answer_has_blocks : (c : Opened) (block : ℕ → List ℕ) (gone : ℕ → Bool) (l : ℕ) → HasBlocks (flags_at c.fields gone l) (answer_of c block gone l)
unfolding answer_of
answer_has_blocks c block gone l =
    correct_has_blocks (blocks_at c.fields block l) (flags_at c.fields gone l) (sums_at c.fields c.sums l) (parity_at c.parity l) c.fields.parity

bad_sum_chosen : (b : Bool) (n : ℕ) (o o' : Option ℕ) (list : List Placed) (p : ℕ)
    → cond b (Beyond n) (option_map_or (λ c. Inconsistent c) o (option_map_or (λ q. BadSum q) o' (Restored list))) ≡ BadSum p → o' ≡ Some p
bad_sum_chosen true n o o' list p e = cc
bad_sum_chosen false n (Some c) o' list p e = cc
bad_sum_chosen false n None (Some q) list p e = cc
bad_sum_chosen false n None None list p e = cc

found_among : (t : ℕ → Bool) (xs : List ℕ) (p : ℕ) → find t xs ≡ Some p → (k : ℕ) × (k < length xs) × (get_or xs k 0 ≡ p)
found_among t [] p e = absurd (let never : ⊥ = cc in never)
found_among t (x ∷ xs) p e =
    let P : Bool → Type 0 = λ b. cond b (Some x) (find t xs) ≡ Some p → (k : ℕ) × (k < length (x ∷ xs)) × (get_or (x ∷ xs) k 0 ≡ p) in
    let both : (b : Bool) → P b = λ b. elim b as P [
      | true ↦ λ f. (0, omega arith, (let g : x ≡ p = cc in g))
      | false ↦ λ f. let later = found_among t xs p f in let low = later.1 in (suc later.0, omega arith, later.2)
    ] in
    both (t x) e

pub bad_sum_flagged : (blocks : List (List ℕ)) (flags : List Bool) (sums parity : List ℕ) (r p : ℕ) → correct_of blocks flags sums parity r ≡ BadSum p
    → get_or flags p false ≡ true
unfolding correct_of first_bad_sum
bad_sum_flagged blocks flags sums parity r p e =
    let found = bad_sum_chosen (nat_lt r (length (erased_places flags))) (length (erased_places flags)) (first_inconsistent blocks flags parity r)
    (find (λ p. not (crc (restored_block blocks flags parity r p) == get_or sums p 0)) (erased_places flags))
    (placed (restored_block blocks flags parity r) (erased_places flags)) p e in
    let among = found_among (λ p. not (crc (restored_block blocks flags parity r p) == get_or sums p 0)) (erased_places flags) p found in
    ap (λ q. get_or flags q false) (sym among.2) ∙ erased_flagged flags among.0 among.1

-- a flag that is set stands for a sector
pub flagged_is_sector : (f : Fields) (gone : ℕ → Bool) (l p : ℕ) → get_or (flags_at f gone l) p false ≡ true → place_number f l p < f.sectors
unfolding flags_at flag_at
flagged_is_sector f gone l p e =
    ⊎_elim
    (λ inside.
    let flag = get_or-map-range_with_len (flag_at f gone l) 0 (255 - f.parity) p p false inside (let z : 0 + p ≡ p = omega arith in z) in
    let both = both_parts (nat_lt (place_number f l p) f.sectors) (gone (place_number f l p)) (sym flag ∙ e) in
    ⊎_elim (λ h. h) (λ past. absurd (false≢true (sym (le-ltb (place_number f l p) f.sectors past) ∙ both.0))) (cases_lt (place_number f l p) f.sectors))
    (λ past.
    let long = length-flags_at f gone l in
    absurd (false≢true (sym (get_or_past (flags_at f gone l) p false (omega arith)) ∙ e)))
    (cases_lt p (255 - f.parity))

pub answer_names_sector : (c : Opened) (block : ℕ → List ℕ) (gone : ℕ → Bool) (l : ℕ) → NamesSector c.fields l (answer_of c block gone l)
unfolding answer_of
answer_names_sector c block gone l p same =
    flagged_is_sector c.fields gone l p
    (bad_sum_flagged (blocks_at c.fields block l) (flags_at c.fields gone l) (sums_at c.fields c.sums l) (parity_at c.parity l) c.fields.parity p same)
