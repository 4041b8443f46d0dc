-- Lists and counts of the sectors that were looked at, one sector more at a time.
use Rattle.std.proofs.Common.{◌≡◌, ℕ, ◌+◌, ◌<◌, List, [], ◌∷◌, ◌++◌, length, map, get_or, set, sym, ap, ◌∙◌, arith, Bool, true, false, cond, eqb, add-one, ⊎_elim, count_by, get_or-set_other, length-set}
use Rattle.std.specs.Prelude.{filter, ◌&&◌, ◌==◌, slice_index, slice_set}
use Rattle.std.specs.List.{range_with_len}
use Rattle.std.proofs.lemmas.Bool.{cases_eq, eq-eqb, ne_eqb}
use Rattle.std.proofs.lemmas.Grind.{get_or-set_at}
use Rattle.std.proofs.lemmas.List.Elements.{filter-append}
use Rattle.std.proofs.lemmas.List.FromFn.{fill_by_all, length-map-range_with_len, get_or-map-range_with_len}
use Rattle.std.proofs.lemmas.List.Sums.{sum_by_push}
use Rattle.rs01_lists.proofs.Ranges.{range_with_len_more}

range_more : (n : ℕ) → range_with_len 0 (n + 1) ≡ range_with_len 0 n ++ n ∷ []
range_more n =
    ap (range_with_len 0) (add-one n) ∙ range_with_len_more 0 n ∙ ap (λ k. range_with_len 0 n ++ k ∷ []) (let e : 0 + n ≡ n = omega arith in e)

pub filter_range_more : (p : ℕ → Bool) (n : ℕ) → filter p (range_with_len 0 (n + 1)) ≡ filter p (range_with_len 0 n) ++ cond (p n) (n ∷ []) []
filter_range_more p n = ap (filter p) (range_more n) ∙ filter-append p (range_with_len 0 n) (n ∷ [])

pub count_range_more : (p : ℕ → Bool) (n : ℕ) → count_by p (range_with_len 0 (n + 1)) ≡ count_by p (range_with_len 0 n) + cond (p n) 1 0
count_range_more p n = ap (count_by p) (range_more n) ∙ sum_by_push (λ x. cond (p x) 1 0) (range_with_len 0 n) n

-- a list of counts in which one is raised
raised_at : (l layers : ℕ) (before : ℕ → ℕ) (old : List ℕ) → l < layers → old ≡ map before (range_with_len 0 layers) → (k : ℕ) → k < layers
    → get_or (set old l (get_or old l 0 + 1)) k 0 ≡ before k + cond (eqb l k) 1 0
raised_at l layers before old within held k below =
    let long : length old ≡ layers = ap length held ∙ length-map-range_with_len before 0 layers in
    let at : (j : ℕ) → j < layers → get_or old j 0 ≡ before j = λ j h. ap (λ xs. get_or xs j 0) held ∙ get_or-map-range_with_len before 0 layers j j 0 h (omega arith) in
    ⊎_elim
    (λ same.
    get_or-set_at old l k (get_or old l 0 + 1) 0 (sym same) (omega (arith, long))
    ∙ ap (λ c. c + 1) (at l within ∙ ap before same)
    ∙ ap (λ b. before k + cond b 1 0) (sym (eq-eqb l k same)))
    (λ apart.
    get_or-set_other old l k (get_or old l 0 + 1) 0 (λ e. apart (sym e))
    ∙ at k below
    ∙ (let z : before k ≡ before k + 0 = omega arith in z)
    ∙ ap (λ b. before k + cond b 1 0) (sym (ne_eqb l k apart)))
    (cases_eq l k)

pub raised : (erased : Bool) (l layers : ℕ) (before : ℕ → ℕ) (old new : List ℕ) → l < layers → old ≡ map before (range_with_len 0 layers)
    → new ≡ cond erased (slice_set old l (slice_index old l + 1)) old
    → new ≡ map (λ k. before k + cond (erased && (l == k)) 1 0) (range_with_len 0 layers)
raised false l layers before old new within held put =
    put ∙ held ∙ (λ i. map (λ k. (let z : before k ≡ before k + 0 = omega arith in z) i) (range_with_len 0 layers))
raised true l layers before old new within held put =
    put ∙ fill_by_all (λ k. before k + cond (eqb l k) 1 0) (set old l (get_or old l 0 + 1)) layers 0
    (length-set old l (get_or old l 0 + 1) ∙ ap length held ∙ length-map-range_with_len before 0 layers)
    (raised_at l layers before old within held)
