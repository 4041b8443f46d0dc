-- Which sectors are unread after a mark, and that none is left in a layer within its bound.
use Rattle.std.proofs.Common.{◌≡◌, ℕ, ◌%◌, ⊎_elim, List, length, refl, sym, ap, ◌∙◌}
use Rattle.std.specs.Prelude.{Bool, true, false, ◌≢◌, ◌==◌, ◌&&◌, ◌||◌, not, nat_le, if◌then◌else◌, Option, Some, None}
use Rattle.std.specs.List.{range_with_len, count_by}
use Rattle.std.proofs.Math.ListN.{set}
use Rattle.std.proofs.lemmas.List.{length-set}
use Rattle.std.proofs.lemmas.Bool.{cases_eq, eq-eqb, ne_eqb, false≢true}
use Rattle.rs01_layers.specs.Layout.{layers_of}
use Rattle.rs01_layers.specs.declared.shape.Shape.{Shape}
use Rattle.rs01_intervals.specs.Maximal.{flag_at}
use Rattle.rs01_states.specs.Sparing.{IsUnread, state_of, is_unread, is_open, is_within, lacks, layer_count, newly_within, open_count, settled, spared_all, spared_where, within_bound}
use Rattle.rs01_states.specs.declared.state.State.{State}
use Rattle.rs01_states.specs.declared.state.State.TheVariants.{Unread, Good, Failed, Spared}
use Rattle.rs01_states.proofs.RangeLemmas.{agree}
use Rattle.rs01_states.proofs.StateLemmas.{matters-if-unread, not-enough, open-after, same-open, set-elsewhere, set-here, spared-at, unread-inside, unread-is-open}
use Rattle.rs01_turns.specs.Turns.{unread_flags}
use Rattle.rs01_turns.proofs.Turning.{flag-of}
use Rattle.rs01_reader.specs.Courses.{IsSpared, flag_after, lies_in}

-- a sector that is read leaves the counts of other layers
other-open : (layers l s : ℕ) (xs : List State) → l ≢ s % layers → open_count layers l (set xs s Good) ≡ open_count layers l xs
unfolding open_count
other-open layers l s xs d =
    ap (λ (n : ℕ). count_by (lacks layers l (set xs s Good)) (range_with_len 0 n)) (length-set xs s Good)
    ∙ agree (lacks layers l (set xs s Good)) (lacks layers l xs) 0 (length xs) (λ k low high. ⊎_elim
    (λ e.
    let apart : k % layers ≢ l = λ w. d (sym w ∙ ap (λ (m : ℕ). m % layers) e) in
    ap (λ (b : Bool). b && is_open (state_of (set xs s Good) k)) (ne_eqb (k % layers) l apart)
    ∙ sym (ap (λ (b : Bool). b && is_open (state_of xs k)) (ne_eqb (k % layers) l apart)))
    (λ n. ap (λ (x : State). (k % layers == l) && is_open x) (set-elsewhere xs s k Good n))
    (cases_eq k s))

pub other-within : (layers bound l s : ℕ) (xs : List State) → l ≢ s % layers → within_bound layers bound l (set xs s Good) ≡ within_bound layers bound l xs
unfolding within_bound
other-within layers bound l s xs d = ap (λ (n : ℕ). nat_le n bound) (other-open layers l s xs d)

pub spared-within : (layers bound l : ℕ) (xs : List State) → within_bound layers bound l (spared_all layers bound xs) ≡ within_bound layers bound l xs
unfolding within_bound
spared-within layers bound l xs = ap (λ (n : ℕ). nat_le n bound) (open-after layers bound l xs)

-- a failed sector is as open as an unread one
failed-open : (layers l s : ℕ) (xs : List State) → IsUnread xs s → open_count layers l (set xs s Failed) ≡ open_count layers l xs
failed-open layers l s xs was =
    same-open layers l (set xs s Failed) xs (length-set xs s Failed) (λ k. ⊎_elim
    (λ e.
    ap (λ (m : ℕ). is_open (state_of (set xs s Failed) m)) e ∙ ap is_open (set-here xs s Failed (unread-inside xs s was))
    ∙ sym (unread-is-open (state_of xs s) was) ∙ sym (ap (λ (m : ℕ). is_open (state_of xs m)) e))
    (λ d. ap is_open (set-elsewhere xs s k Failed d))
    (cases_eq k s))

pub failed-within : (shape : Option Shape) (l s : ℕ) (xs : List State) → IsUnread xs s → is_within shape l (set xs s Failed) ≡ is_within shape l xs
unfolding within_bound
failed-within None l s xs was = refl
failed-within (Some h) l s xs was = ap (λ (n : ℕ). nat_le n h.parity) (failed-open (layers_of h.sectors h.parity) l s xs was)

-- an unread sector isn't the one that was marked
pub marked-other : (xs : List State) (s k : ℕ) (x : State) → IsUnread xs s → is_unread x ≡ false → IsUnread (set xs s x) k → k ≢ s
marked-other xs s k x was is_not h e =
    false≢true (sym is_not ∙ sym (ap is_unread (set-here xs s x (unread-inside xs s was))) ∙ ap (λ (m : ℕ). is_unread (state_of (set xs s x) m)) (sym e) ∙ h)

pub failed-spared : (shape : Option Shape) (xs : List State) (s : ℕ) → IsUnread xs s → IsSpared shape xs → IsSpared shape (set xs s Failed)
failed-spared shape xs s was spared k h =
    let d = marked-other xs s k Failed was refl h in
    failed-within shape (k % layer_count shape) s xs was ∙ spared k (sym (ap is_unread (set-elsewhere xs s k Failed d)) ∙ h)

-- the layer that came within its bound, by whether it is within it
newly-is : (b c : Bool) (l : ℕ) → c ≡ false → (if b && not c then Some l else None) ≡ (if b then Some l else None)
newly-is true c l e = ap (λ (x : Bool). if not x then Some l else None) e
newly-is false c l e = refl

unread-spared : (x : State) → is_unread (spared_where x true) ≡ false
unfolding spared_where
unread-spared Unread = refl
unread-spared Good = refl
unread-spared Failed = refl
unread-spared Spared = refl

-- a sector of the layer of one that was read
own-unread : (x : State) (w in_layer : Bool) (l layers k : ℕ) → in_layer ≡ true → in_layer ≡ (k % layers == l)
    → is_unread (spared_where x w) ≡ (if lies_in (if w then Some l else None) layers k then false else is_unread x)
own-unread x true in_layer l layers k yes_ is = unread-spared x ∙ sym (ap (λ (b : Bool). if b then false else is_unread x) (sym is ∙ yes_))
own-unread x false in_layer l layers k yes_ is = ap is_unread (not-enough x)

-- one of another layer
other-unread : (x : State) (w : Bool) (l layers k : ℕ) → k % layers ≢ l → (if lies_in (if w then Some l else None) layers k then false else is_unread x) ≡ is_unread x
other-unread x true l layers k d = ap (λ (b : Bool). if b then false else is_unread x) (ne_eqb (k % layers) l d)
other-unread x false l layers k d = refl

left-unread : (shape : Option Shape) (xs : List State) (s k : ℕ) → IsSpared shape xs → IsUnread xs s → k ≢ s
    → is_unread (state_of (settled shape (set xs s Good)) k)
    ≡ (if lies_in (newly_within shape s xs (settled shape (set xs s Good))) (layer_count shape) k then false else is_unread (state_of xs k))
left-unread None xs s k spared was d = ap is_unread (set-elsewhere xs s k Good d)
left-unread (Some h) xs s k spared was d =
    let layers = layers_of h.sectors h.parity in
    let zs = set xs s Good in
    let here = set-elsewhere xs s k Good d in
    let w = within_bound layers h.parity (s % layers) zs in
    let newly : newly_within (Some h) s xs (settled (Some h) zs) ≡ (if w then Some (s % layers) else None) =
    ap (λ (b : Bool). if b && not (within_bound layers h.parity (s % layers) xs) then Some (s % layers) else None) (spared-within layers h.parity (s % layers) zs)
    ∙ newly-is w (within_bound layers h.parity (s % layers) xs) (s % layers) (spared s was) in
    ap is_unread (spared-at layers h.parity zs k ∙ ap (λ (x : State). spared_where x (within_bound layers h.parity (k % layers) zs)) here)
    ∙ ⊎_elim
    (λ e.
    ap (λ (l : ℕ). is_unread (spared_where (state_of xs k) (within_bound layers h.parity l zs))) e
    ∙ own-unread (state_of xs k) w (k % layers == s % layers) (s % layers) layers k (eq-eqb (k % layers) (s % layers) e) refl)
    (λ n.
    ap is_unread (matters-if-unread (state_of xs k) (within_bound layers h.parity (k % layers) zs) false (λ u. other-within layers h.parity (k % layers) s xs n ∙ spared k u)
    ∙ not-enough (state_of xs k))
    ∙ sym (other-unread (state_of xs k) w (s % layers) layers k n))
    (cases_eq (k % layers) (s % layers))
    ∙ sym (ap (λ (o : Option ℕ). if lies_in o layers k then false else is_unread (state_of xs k)) newly)

-- the unread sectors after a read
pub read-unread : (shape : Option Shape) (xs : List State) (s k : ℕ) → IsSpared shape xs → IsUnread xs s → is_unread (state_of (settled shape (set xs s Good)) s) ≡ false
    → is_unread (state_of (settled shape (set xs s Good)) k)
    ≡ flag_after (newly_within shape s xs (settled shape (set xs s Good))) (layer_count shape) s (unread_flags xs) k
read-unread shape xs s k spared was gone =
    let o = newly_within shape s xs (settled shape (set xs s Good)) in
    ⊎_elim
    (λ e.
    ap (λ (m : ℕ). is_unread (state_of (settled shape (set xs s Good)) m)) e ∙ gone
    ∙ sym (ap (λ (b : Bool). if b || lies_in o (layer_count shape) k then false else flag_at (unread_flags xs) k) (eq-eqb k s e)))
    (λ d.
    left-unread shape xs s k spared was d
    ∙ ap (λ (b : Bool). if lies_in o (layer_count shape) k then false else b) (sym (flag-of xs k))
    ∙ sym (ap (λ (b : Bool). if b || lies_in o (layer_count shape) k then false else flag_at (unread_flags xs) k) (ne_eqb k s d)))
    (cases_eq k s)
