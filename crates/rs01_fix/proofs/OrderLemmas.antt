-- The order in which the sectors are taken: by layer, and in it by place.
use Rattle.std.proofs.Common.{◌≡◌, ℕ, ◌+◌, ◌-◌, ◌<◌, ◌≤◌, sym, ap, ◌∙◌, arith, ◌⊎◌, inl, inr, ⊎_elim}
use Rattle.std.specs.Prelude.{Some, None}
use Rattle.std.proofs.lemmas.Bool.{cases_lt, cases_eq}
use Rattle.rs01_layers.specs.Layout.{IsShape, layer_of, layers_of, number_at, place_of, sector_at}
use Rattle.rs01_layers.proofs.PlaceLemmas.{place_determines_sector, each_sector_has_a_place, each_sector_has_one_place}
use Rattle.rs01_fix.specs.Progress.{IsDone, IsAhead}
use Rattle.rs01_repair.proofs.InputLemmas.{some_sector, no_sector}

before_or_at : (lay pla l p : ℕ) → (lay < l) ⊎ ((lay ≡ l) × (pla < p + 1)) → ((lay < l) ⊎ ((lay ≡ l) × (pla < p))) ⊎ ((lay ≡ l) × (pla ≡ p))
before_or_at lay pla l p =
    ⊎_elim
    (λ h. inl (inl h))
    (λ h. ⊎_elim (λ lt. inl (inr (h.0, lt))) (λ ge. let le = h.1 in inr (h.0, omega arith)) (cases_lt pla p))

behind : (lay pla l p : ℕ) → (l < lay) ⊎ ((lay ≡ l) × (p + 1 ≤ pla)) → ((l < lay) ⊎ ((lay ≡ l) × (p ≤ pla))) × ((lay ≡ l) → (pla ≡ p) → ⊥)
behind lay pla l p =
    ⊎_elim
    (λ h. (inl h, λ e f. omega arith))
    (λ h. let le = h.1 in (inr (h.0, omega arith), λ e f. omega arith))

-- after the sector at a place, one more is done
pub done_more : (n r l p s : ℕ) → IsShape n r → Some s ≡ sector_at n r l p → (t : ℕ) → t < n → IsDone n r l (p + 1) t → IsDone n r l p t ⊎ (t ≡ s)
done_more n r l p s shape e t below h =
    let is = some_sector n r l p s e in
    ⊎_elim
    (λ d. inl d)
    (λ at. inr (sym (place_determines_sector n r t shape) ∙ (λ i. number_at n r (at.0 i) (at.1 i)) ∙ sym is.0))
    (before_or_at (layer_of n r t) (place_of n r t) l p h)

pub ahead_less : (n r l p s : ℕ) → IsShape n r → l < layers_of n r → Some s ≡ sector_at n r l p → (t : ℕ) → t < n → IsAhead n r l (p + 1) t
    → IsAhead n r l p t × (t ≡ s → ⊥)
ahead_less n r l p s shape low e t below h =
    let at = each_sector_has_one_place n r l p s shape low (sym e) in
    let b = behind (layer_of n r t) (place_of n r t) l p h in
    (b.0, λ same. b.1 (ap (layer_of n r) same ∙ at.0) (ap (place_of n r) same ∙ at.1))

pub here_ahead : (n r l p s : ℕ) → IsShape n r → l < layers_of n r → Some s ≡ sector_at n r l p → IsAhead n r l p s
here_ahead n r l p s shape low e =
    let at = each_sector_has_one_place n r l p s shape low (sym e) in
    let place = at.1 in
    inr (at.0, omega arith)

-- after padding, no more is done
pub done_padding : (n r l p : ℕ) → IsShape n r → None ≡ sector_at n r l p → (t : ℕ) → t < n → IsDone n r l (p + 1) t → IsDone n r l p t
done_padding n r l p shape e t below h =
    let past = no_sector n r l p e in
    ⊎_elim
    (λ d. d)
    (λ at. let is : t ≡ number_at n r l p = sym (place_determines_sector n r t shape) ∙ (λ i. number_at n r (at.0 i) (at.1 i)) in absurd (omega arith))
    (before_or_at (layer_of n r t) (place_of n r t) l p h)

pub ahead_padding : (n r l p : ℕ) → (t : ℕ) → t < n → IsAhead n r l (p + 1) t → IsAhead n r l p t
ahead_padding n r l p t below h = (behind (layer_of n r t) (place_of n r t) l p h).0

-- after the last place of a layer comes the next layer
pub done_layer : (n r l : ℕ) → IsShape n r → (t : ℕ) → t < n → IsDone n r (l + 1) 0 t → IsDone n r l (255 - r) t
done_layer n r l shape t below =
    let at = each_sector_has_a_place n r t shape below in
    ⊎_elim
    (λ h. ⊎_elim (λ lt. inl lt) (λ ge. inr ((let e : layer_of n r t ≡ l = omega arith in e), at.1)) (cases_lt (layer_of n r t) l))
    (λ h. let none = h.1 in absurd (omega arith))

pub ahead_layer : (n r l : ℕ) → (t : ℕ) → t < n → IsAhead n r (l + 1) 0 t → IsAhead n r l (255 - r) t
ahead_layer n r l t below =
    ⊎_elim
    (λ h. inl (let e : l < layer_of n r t = omega arith in e))
    (λ h. let same = h.0 in inl (let e : l < layer_of n r t = omega arith in e))

pub none_done : (n r s : ℕ) → IsDone n r 0 0 s → ⊥
none_done n r s = ⊎_elim (λ h. omega arith) (λ h. let none = h.1 in omega arith)

pub all_done : (n r s : ℕ) → IsShape n r → s < n → IsDone n r (layers_of n r) 0 s
all_done n r s shape below = inl (each_sector_has_a_place n r s shape below).0

pub done_or_ahead : (n r l p s : ℕ) → IsDone n r l p s ⊎ IsAhead n r l p s
done_or_ahead n r l p s =
    ⊎_elim
    (λ lt. inl (inl lt))
    (λ ge. ⊎_elim
    (λ e. ⊎_elim (λ lt. inl (inr (e, lt))) (λ le. inr (inr (e, le))) (cases_lt (place_of n r s) p))
    (λ ne. inr (inl (omega arith)))
    (cases_eq (layer_of n r s) l))
    (cases_lt (layer_of n r s) l)

pub layer_in_range : (n r s : ℕ) → IsShape n r → s < n → layer_of n r s < layers_of n r
layer_in_range n r s shape below = (each_sector_has_a_place n r s shape below).0
