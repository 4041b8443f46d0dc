-- The loops: counting by layers, and the walks that spare.
use Rattle.std.proofs.Common.{◌≡◌, ℕ, ◌+◌, ◌-◌, ◌*◌, ◌%◌, ◌/◌, ◌<◌, ◌≤◌, ⊎_elim, List, length, get_or, refl, sym, ap, ◌∙◌, arith}
use Rattle.std.specs.Prelude.{Bool, true, false, ◌≢◌, ◌==◌, ◌&&◌, nat_le, cond}
use Rattle.std.specs.List.{range_with_len, count_by}
use Rattle.std.proofs.Math.ListN.{set}
use Rattle.std.proofs.lemmas.List.{get_or_past, get_or-set_same, get_or-set_other}
use Rattle.std.proofs.Math.Nat.{mod-lt, mod-eq_of_lt, add-mul-mod_self_left, div-add-mod', add-mul}
use Rattle.std.proofs.lemmas.Nat.{same_from_place}
use Rattle.std.proofs.lemmas.Bool.{cases_eq, cases_lt, eq-eqb, ne_eqb}
use Rattle.rs01_states.specs.Sparing.{state_of, is_open, lacks, within_bound, spared_where, spared_state}
use Rattle.rs01_states.specs.Tally.{AreCounts, spared_in_layer}
use Rattle.rs01_states.specs.declared.state.State.{State}
use Rattle.rs01_states.specs.declared.state.State.TheVariants.{Good}
use Rattle.rs01_states.proofs.RangeLemmas.{last}
use Rattle.rs01_states.proofs.StateLemmas.{set-here, set-elsewhere, read-of, not-enough, good-stays}

-- numbers of layers

pub layer-below : (s layers : ℕ) → 1 ≤ layers → s % layers < layers
layer-below s layers some = mod-lt s some

pub own-layer : (l layers : ℕ) → l < layers → l % layers ≡ l
own-layer l layers h = mod-eq_of_lt h

pub same-layer : (s layers : ℕ) → (s + layers) % layers ≡ s % layers
same-layer s layers =
    let once : layers ≡ layers * 1 = omega arith in
    ap (λ (m : ℕ). (s + m) % layers) once ∙ add-mul-mod_self_left s layers 1

-- the sectors between two neighbours of a layer lie in other layers
pub other-layer : (layers s j : ℕ) → 1 ≤ layers → 1 ≤ j → j < layers → (s + j) % layers ≢ s % layers
other-layer layers s j some above below e =
    let first = div-add-mod' s layers in
    let second = div-add-mod' (s + j) layers in
    let low : s % layers < layers = layer-below s layers some in
    let high : (s + j) % layers < layers = layer-below (s + j) layers some in
    ⊎_elim
    (λ lt. let same = same_from_place ((s + j) / layers) ((s + j) % layers) (s / layers) (s % layers + j) layers high lt (omega (arith, first, second)) in omega (arith, e, same.1))
    (λ le. let same = same_from_place ((s + j) / layers) ((s + j) % layers) (s / layers + 1) (s % layers + j - layers) layers high (omega arith) (omega (arith, first, second, add-mul (s / layers) 1 layers)) in omega (arith, e, same.1))
    (cases_lt (s % layers + j) layers)

-- counting, as far as a loop over the sectors has come

more : (layers l : ℕ) (states : List State) (n : ℕ) → count_by (lacks layers l states) (range_with_len 0 (n + 1)) ≡ count_by (lacks layers l states) (range_with_len 0 n) + cond {A = ℕ} (lacks layers l states n) 1 0
more layers l states n =
    let here : 0 + n ≡ n = omega arith in
    last (lacks layers l states) 0 n ∙ ap (λ (k : ℕ). count_by (lacks layers l states) (range_with_len 0 n) + cond {A = ℕ} (lacks layers l states k) 1 0) here

-- sector s isn't good: its layer has one more, the others haven't
pub one-more : (layers s l : ℕ) (states : List State) (counts : List ℕ) → length counts ≡ layers → 1 ≤ layers → l < layers
    → ((m : ℕ) → m < layers → get_or counts m 0 ≡ count_by (lacks layers m states) (range_with_len 0 s)) → is_open (state_of states s) ≡ true
    → get_or (set counts (s % layers) (get_or counts (s % layers) 0 + 1)) l 0 ≡ count_by (lacks layers l states) (range_with_len 0 (s + 1))
one-more layers s l states counts len some below right o = ⊎_elim
    (λ e.
    let here : lacks layers l states s ≡ true = ap (λ (b : Bool). b && is_open (state_of states s)) (eq-eqb (s % layers) l (sym e)) ∙ o in
    let one : ◌≡◌ {A = ℕ} (cond {A = ℕ} (lacks layers l states s) 1 0) 1 = ap (λ (b : Bool). cond {A = ℕ} b 1 0) here in
    let before : get_or counts (s % layers) 0 ≡ count_by (lacks layers l states) (range_with_len 0 s) = ap (λ (m : ℕ). get_or counts m 0) (sym e) ∙ right l below in
    ap (λ (m : ℕ). get_or (set counts (s % layers) (get_or counts (s % layers) 0 + 1)) m 0) e
    ∙ get_or-set_same counts (s % layers) (get_or counts (s % layers) 0 + 1) 0 (omega (arith, layer-below s layers some))
    ∙ omega (arith, more layers l states s))
    (λ n.
    let elsewhere : lacks layers l states s ≡ false = ap (λ (b : Bool). b && is_open (state_of states s)) (ne_eqb (s % layers) l (λ w. n (sym w))) in
    let none : ◌≡◌ {A = ℕ} (cond {A = ℕ} (lacks layers l states s) 1 0) 0 = ap (λ (b : Bool). cond {A = ℕ} b 1 0) elsewhere in
    get_or-set_other counts (s % layers) l (get_or counts (s % layers) 0 + 1) 0 n
    ∙ omega (arith, right l below, more layers l states s))
    (cases_eq l (s % layers))

and-false : (b : Bool) → (b && false) ≡ false
and-false true = refl
and-false false = refl

-- sector s is good: no layer has more
pub no-more : (layers s l n : ℕ) (states : List State) → n ≡ count_by (lacks layers l states) (range_with_len 0 s) → is_open (state_of states s) ≡ false
    → n ≡ count_by (lacks layers l states) (range_with_len 0 (s + 1))
no-more layers s l n states before o =
    let good : lacks layers l states s ≡ false = ap (λ (b : Bool). (s % layers == l) && b) o ∙ and-false (s % layers == l) in
    let none : ◌≡◌ {A = ℕ} (cond {A = ℕ} (lacks layers l states s) 1 0) 0 = ap (λ (b : Bool). cond {A = ℕ} b 1 0) good in
    omega (arith, before, more layers l states s)

-- walks that write a state

pub written : (wanted : ℕ → State) (now : List State) (s : ℕ) (x : State) → s < length now → ((k : ℕ) → k < s → state_of now k ≡ wanted k) → x ≡ wanted s → (k : ℕ) → k < s + 1 → state_of (set now s x) k ≡ wanted k
written wanted now s x h done is k below = ⊎_elim
    (λ e. ap (λ (m : ℕ). state_of (set now s x) m) e ∙ set-here now s x h ∙ is ∙ sym (ap wanted e))
    (λ n. set-elsewhere now s k x n ∙ done k (omega arith))
    (cases_eq k s)

pub untouched : (old now : List State) (s n : ℕ) (x : State) → s < n → ((k : ℕ) → s ≤ k → state_of now k ≡ state_of old k) → (k : ℕ) → n ≤ k → state_of (set now s x) k ≡ state_of old k
untouched old now s n x h left k above = set-elsewhere now s k x (λ e. omega arith) ∙ left k (omega arith)

-- what the walk over all sectors writes
pub by-count : (layers bound : ℕ) (old now : List State) (counts : List ℕ) (s : ℕ) (other x : State) → s < length now → state_of now s ≡ state_of old s
    → AreCounts layers old counts
    → x ≡ spared_where (get_or now s other) (nat_le (get_or counts (s % layers) 0) bound) → x ≡ spared_state layers bound old s
unfolding within_bound
by-count layers bound old now counts s other x h left t is =
    is
    ∙ ap (λ (y : State). spared_where y (nat_le (get_or counts (s % layers) 0) bound)) (read-of now s other h ∙ left)
    ∙ ap (λ (n : ℕ). spared_where (state_of old s) (nat_le n bound)) (t.right (s % layers) (layer-below s layers t.some))

-- the walk over one layer starts: the sectors before belong to others
pub walk-starts : (layers l : ℕ) (old : List State) → l < layers → (k : ℕ) → k < l → state_of old k ≡ spared_in_layer layers l old k
walk-starts layers l old h k below =
    let own : k % layers ≡ k = own-layer k layers (omega arith) in
    sym (not-enough (state_of old k))
    ∙ ap (λ (b : Bool). spared_where (state_of old k) b) (sym (ne_eqb (k % layers) l (λ w. omega arith)))

-- it goes on to the next sector of the layer
pub walk-goes-on : (layers l : ℕ) (old now : List State) (s : ℕ) (other x : State) → 1 ≤ layers → s % layers ≡ l → s < length now
    → ((k : ℕ) → k < s → state_of now k ≡ spared_in_layer layers l old k) → ((k : ℕ) → s ≤ k → state_of now k ≡ state_of old k)
    → x ≡ spared_where (get_or now s other) true → (k : ℕ) → k < s + layers → state_of (set now s x) k ≡ spared_in_layer layers l old k
walk-goes-on layers l old now s other x some place h done left is k below = ⊎_elim
    (λ before. set-elsewhere now s k x (λ e. omega arith) ∙ done k before)
    (λ from. ⊎_elim
    (λ e.
    ap (λ (m : ℕ). state_of (set now s x) m) e
    ∙ set-here now s x h
    ∙ is
    ∙ ap (λ (y : State). spared_where y true) (read-of now s other h ∙ left s (omega arith))
    ∙ ap (λ (b : Bool). spared_where (state_of old s) b) (sym (eq-eqb (s % layers) l place))
    ∙ ap (λ (m : ℕ). spared_in_layer layers l old m) (sym e))
    (λ n.
    let up : s + (k - s) ≡ k = omega arith in
    let apart : k % layers ≢ l = λ w. other-layer layers s (k - s) some (omega arith) (omega arith) (ap (λ (m : ℕ). m % layers) up ∙ w ∙ sym place) in
    set-elsewhere now s k x n
    ∙ left k from
    ∙ sym (not-enough (state_of old k))
    ∙ ap (λ (b : Bool). spared_where (state_of old k) b) (sym (ne_eqb (k % layers) l apart)))
    (cases_eq k s))
    (cases_lt k s)

-- it ends behind the last sector
pub walk-ends : (layers l : ℕ) (old now : List State) (s k : ℕ) → length now ≡ length old → ((j : ℕ) → j < s → state_of now j ≡ spared_in_layer layers l old j) → length old ≤ s → state_of now k ≡ spared_in_layer layers l old k
walk-ends layers l old now s k len done end = ⊎_elim
    (λ before. done k before)
    (λ past. get_or_past now k Good (omega arith) ∙ sym (good-stays (k % layers == l)) ∙ ap (λ (x : State). spared_where x (k % layers == l)) (sym (get_or_past old k Good (omega arith))))
    (cases_lt k s)
