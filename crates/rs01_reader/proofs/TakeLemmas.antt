-- Walks that take flags out.
use Rattle.std.proofs.Common.{◌≡◌, ℕ, ◌+◌, ◌-◌, ◌%◌, ◌<◌, ◌≤◌, ⊎_elim, List, length, refl, sym, ap, ◌∙◌, arith}
use Rattle.std.specs.Prelude.{Bool, true, false, ◌≢◌, ◌==◌, ◌||◌, if◌then◌else◌, Some, None}
use Rattle.std.proofs.Math.ListN.{set}
use Rattle.std.proofs.lemmas.List.{get_or_past, get_or-set_same, get_or-set_other, length-set}
use Rattle.std.proofs.lemmas.Bool.{cases_eq, cases_lt, eq-eqb, ne_eqb}
use Rattle.rs01_intervals.specs.Maximal.{flag_at}
use Rattle.rs01_states.proofs.LayerLemmas.{other-layer, own-layer}
use Rattle.rs01_reader.specs.Courses.{flag_after}

-- the flags but for those of a layer
abbrev pub without : ℕ → ℕ → List Bool → ℕ → Bool
without layers l old k = if k % layers == l then false else flag_at old k

pub taken-here : (flags : List Bool) (s : ℕ) → flag_at (set flags s false) s ≡ false
taken-here flags s = ⊎_elim
    (λ inside. get_or-set_same flags s false false inside)
    (λ past. get_or_past (set flags s false) s false (omega (arith, length-set flags s false)))
    (cases_lt s (length flags))

pub taken-elsewhere : (flags : List Bool) (s k : ℕ) → k ≢ s → flag_at (set flags s false) k ≡ flag_at flags k
taken-elsewhere flags s k d = get_or-set_other flags s k false false d

in-layer : (layers l : ℕ) (old : List Bool) (k : ℕ) → k % layers ≡ l → without layers l old k ≡ false
in-layer layers l old k e = ap (λ (b : Bool). if b then false else flag_at old k) (eq-eqb (k % layers) l e)

in-other : (layers l : ℕ) (old : List Bool) (k : ℕ) → k % layers ≢ l → without layers l old k ≡ flag_at old k
in-other layers l old k d = ap (λ (b : Bool). if b then false else flag_at old k) (ne_eqb (k % layers) l d)

-- a walk over one layer starts: the sectors before belong to others
pub layer-starts : (layers l : ℕ) (old : List Bool) → l < layers → (k : ℕ) → k < l → flag_at old k ≡ without layers l old k
layer-starts layers l old h k below = sym (in-other layers l old k (λ w. omega (arith, w, below, own-layer k layers (omega (arith, h, below)))))

-- it goes on to the next sector of the layer
pub layer-goes-on : (layers l : ℕ) (old now : List Bool) (s : ℕ) → 1 ≤ layers → s % layers ≡ l
    → ((k : ℕ) → k < s → flag_at now k ≡ without layers l old k) → ((k : ℕ) → s ≤ k → flag_at now k ≡ flag_at old k)
    → (k : ℕ) → k < s + layers → flag_at (set now s false) k ≡ without layers l old k
layer-goes-on layers l old now s some place done left k below = ⊎_elim
    (λ before. taken-elsewhere now s k (λ e. omega (arith, e, before)) ∙ done k before)
    (λ from. ⊎_elim
    (λ e. ap (λ (m : ℕ). flag_at (set now s false) m) e ∙ taken-here now s ∙ sym (in-layer layers l old k (ap (λ (m : ℕ). m % layers) e ∙ place)))
    (λ n.
    let up : s + (k - s) ≡ k = omega (arith, from) in
    let apart : k % layers ≢ l = λ w. other-layer layers s (k - s) some (omega (arith, from, n)) (omega (arith, from, below)) (ap (λ (m : ℕ). m % layers) up ∙ w ∙ sym place) in
    taken-elsewhere now s k n ∙ left k from ∙ sym (in-other layers l old k apart))
    (cases_eq k s))
    (cases_lt k s)

-- what lies behind is untouched
pub behind-stays : (old now : List Bool) (s n : ℕ) → s < n → ((k : ℕ) → s ≤ k → flag_at now k ≡ flag_at old k) → (k : ℕ) → n ≤ k → flag_at (set now s false) k ≡ flag_at old k
behind-stays old now s n h left k above = taken-elsewhere now s k (λ e. omega (arith, e, h, above)) ∙ left k (omega (arith, h, above))

-- it ends behind the last sector
pub layer-ends : (layers l : ℕ) (old now : List Bool) (s k : ℕ) → length now ≡ length old → ((j : ℕ) → j < s → flag_at now j ≡ without layers l old j) → length old ≤ s
    → flag_at now k ≡ without layers l old k
layer-ends layers l old now s k len done end = ⊎_elim
    (λ before. done k before)
    (λ past.
    let gone : flag_at old k ≡ false = get_or_past old k false (omega (arith, end, past)) in
    get_or_past now k false (omega (arith, len, end, past)) ∙ sym (none-left (k % layers == l) (flag_at old k) gone))
    (cases_lt k s)
  where
    none-left : (b c : Bool) → c ≡ false → (if b then false else c) ≡ false
    none-left true c e = refl
    none-left false c e = e

-- a sector was taken, and then the layer that it settled, if it did
pub read-alone : (layers s : ℕ) (old : List Bool) (k : ℕ) → flag_at (set old s false) k ≡ flag_after None layers s old k
read-alone layers s old k = ⊎_elim
    (λ e. ap (λ (m : ℕ). flag_at (set old s false) m) e ∙ taken-here old s ∙ sym (ap (λ (b : Bool). if b || false then false else flag_at old k) (eq-eqb k s e)))
    (λ d. taken-elsewhere old s k d ∙ sym (ap (λ (b : Bool). if b || false then false else flag_at old k) (ne_eqb k s d)))
    (cases_eq k s)

pub read-layer : (layers l s : ℕ) (old new : List Bool) (k : ℕ) → flag_at new k ≡ without layers l (set old s false) k → flag_at new k ≡ flag_after (Some l) layers s old k
read-layer layers l s old new k is = is ∙ ⊎_elim
    (λ e.
    let here : flag_at (set old s false) k ≡ false = ap (λ (m : ℕ). flag_at (set old s false) m) e ∙ taken-here old s in
    ap (λ (b : Bool). if k % layers == l then false else b) here ∙ either (k % layers == l)
    ∙ sym (ap (λ (b : Bool). if b || (k % layers == l) then false else flag_at old k) (eq-eqb k s e)))
    (λ d.
    ap (λ (b : Bool). if k % layers == l then false else b) (taken-elsewhere old s k d)
    ∙ sym (ap (λ (b : Bool). if b || (k % layers == l) then false else flag_at old k) (ne_eqb k s d)))
    (cases_eq k s)
  where
    either : (b : Bool) → (if b then false else false) ≡ false
    either true = refl
    either false = refl
