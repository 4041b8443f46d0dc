-- The states of single sectors, and the sparing of all of them.
use Rattle.std.proofs.Common.{◌≡◌, ℕ, ◌%◌, ◌<◌, ◌≤◌, ◌+◌, ◌-◌, ⊎_elim, suc, List, length, get_or, refl, sym, ap, ◌∙◌, arith}
use Rattle.std.specs.Prelude.{Some, None, Bool, true, false, ◌≢◌, ◌==◌, ◌&&◌, cond, if◌then◌else◌}
use Rattle.std.specs.List.{range_with_len, count_by, find}
use Rattle.std.proofs.Math.ListN.{set}
use Rattle.std.proofs.lemmas.List.{length-map, length-set, get_or_past, get_or-set_same, get_or-set_other, get_or_default, ext_get_or}
use Rattle.std.proofs.lemmas.List.FromFn.{length-map-range_with_len, get_or-map-range_with_len}
use Rattle.std.proofs.lemmas.Bool.{cases_lt, le-leb, lt-leb, leb-false, false≢true}
use Rattle.rs01_states.specs.Sparing.{IsUnread, found, state_of, is_unread, is_open, lacks, open_count, within_bound, spared_where, spared_state, spared_all, next_unread}
use Rattle.rs01_states.specs.declared.state.State.{State}
use Rattle.rs01_states.specs.declared.state.State.TheVariants.{Unread, Good, Failed, Spared}
use Rattle.rs01_states.proofs.RangeLemmas.{agree}

-- one state

pub unread-is-open : (x : State) → is_unread x ≡ true → is_open x ≡ true
unread-is-open Unread h = refl
unread-is-open Good h = h
unread-is-open Failed h = refl
unread-is-open Spared h = refl

pub not-enough : (x : State) → spared_where x false ≡ x
unfolding spared_where
not-enough x = refl

pub good-stays : (enough : Bool) → spared_where Good enough ≡ Good
unfolding spared_where
good-stays true = refl
good-stays false = refl

failed-stays : (enough : Bool) → spared_where Failed enough ≡ Failed
unfolding spared_where
failed-stays true = refl
failed-stays false = refl

spared-stays : (enough : Bool) → spared_where Spared enough ≡ Spared
unfolding spared_where
spared-stays true = refl
spared-stays false = refl

-- sparing changes no count
open-stays : (x : State) (enough : Bool) → is_open (spared_where x enough) ≡ is_open x
unfolding spared_where
open-stays Unread true = refl
open-stays Unread false = refl
open-stays Good true = refl
open-stays Good false = refl
open-stays Failed true = refl
open-stays Failed false = refl
open-stays Spared true = refl
open-stays Spared false = refl

-- what is unread afterwards wasn't to be spared
pub unread-after : (x : State) (enough : Bool) → is_unread (spared_where x enough) ≡ true → enough ≡ false
unfolding spared_where
unread-after Unread true h = absurd (false≢true h)
unread-after Good true h = absurd (false≢true h)
unread-after Failed true h = absurd (false≢true h)
unread-after Spared true h = absurd (false≢true h)
unread-after Unread false h = refl
unread-after Good false h = refl
unread-after Failed false h = refl
unread-after Spared false h = refl

-- it matters for unread sectors alone whether the parity is enough
pub matters-if-unread : (x : State) (a b : Bool) → (is_unread x ≡ true → a ≡ b) → spared_where x a ≡ spared_where x b
matters-if-unread Unread a b h = ap (λ (e : Bool). spared_where Unread e) (h refl)
matters-if-unread Good a b h = good-stays a ∙ sym (good-stays b)
matters-if-unread Failed a b h = failed-stays a ∙ sym (failed-stays b)
matters-if-unread Spared a b h = spared-stays a ∙ sym (spared-stays b)

-- lists of states

pub set-here : (states : List State) (s : ℕ) (x : State) → s < length states → state_of (set states s x) s ≡ x
set-here states s x h = get_or-set_same states s x Good h

pub set-elsewhere : (states : List State) (s k : ℕ) (x : State) → k ≢ s → state_of (set states s x) k ≡ state_of states k
set-elsewhere states s k x n = get_or-set_other states s k x Good n

-- whatever a read takes for numbers behind the last sector
pub read-of : (states : List State) (s : ℕ) (other : State) → s < length states → get_or states s other ≡ state_of states s
read-of states s other h = get_or_default states s other Good h

pub unread-inside : (states : List State) (s : ℕ) → IsUnread states s → s < length states
unread-inside states s u = ⊎_elim
    (λ inside. inside)
    (λ past. absurd (false≢true (ap is_unread (sym (get_or_past states s Good past)) ∙ u)))
    (cases_lt s (length states))

-- the same sectors are open, so the same number in each layer
pub same-open : (layers l : ℕ) (xs ys : List State) → length xs ≡ length ys → ((s : ℕ) → is_open (state_of xs s) ≡ is_open (state_of ys s)) → open_count layers l xs ≡ open_count layers l ys
unfolding open_count
same-open layers l xs ys len same =
    agree (lacks layers l xs) (lacks layers l ys) 0 (length xs) (λ k low high. ap (λ (b : Bool). (k % layers == l) && b) (same k))
    ∙ ap (λ (n : ℕ). count_by (lacks layers l ys) (range_with_len 0 n)) len

-- bounds

pub is-beyond : (layers bound l : ℕ) (states : List State) → bound < open_count layers l states → within_bound layers bound l states ≡ false
unfolding within_bound
is-beyond layers bound l states h = lt-leb (open_count layers l states) bound h

pub is-inside : (layers bound l : ℕ) (states : List State) → open_count layers l states ≤ bound → within_bound layers bound l states ≡ true
unfolding within_bound
is-inside layers bound l states h = le-leb (open_count layers l states) bound h

pub beyond-bound : (layers bound l : ℕ) (states : List State) → within_bound layers bound l states ≡ false → bound < open_count layers l states
unfolding within_bound
beyond-bound layers bound l states h = leb-false (open_count layers l states) bound h

-- all sectors

pub length-spared : (layers bound : ℕ) (states : List State) → length (spared_all layers bound states) ≡ length states
unfolding spared_all
length-spared layers bound states = length-map-range_with_len (spared_state layers bound states) 0 (length states)

pub spared-at : (layers bound : ℕ) (states : List State) (s : ℕ) → state_of (spared_all layers bound states) s ≡ spared_state layers bound states s
unfolding spared_all
spared-at layers bound states s = ⊎_elim
    (λ inside. get_or-map-range_with_len (spared_state layers bound states) 0 (length states) s s Good inside (omega arith))
    (λ past. get_or_past (spared_all layers bound states) s Good (omega (arith, length-spared layers bound states))
    ∙ sym (good-stays (within_bound layers bound (s % layers) states))
    ∙ ap (λ (x : State). spared_where x (within_bound layers bound (s % layers) states)) (sym (get_or_past states s Good past)))
    (cases_lt s (length states))

pub all-are-spared : (layers bound : ℕ) (states new : List State) → length new ≡ length states → ((s : ℕ) → s < length states → state_of new s ≡ spared_state layers bound states s) → new ≡ spared_all layers bound states
all-are-spared layers bound states new len same =
    ext_get_or Good new (spared_all layers bound states) (len ∙ sym (length-spared layers bound states)) (λ s below. same s (omega arith) ∙ sym (spared-at layers bound states s))

pub open-after : (layers bound l : ℕ) (states : List State) → open_count layers l (spared_all layers bound states) ≡ open_count layers l states
open-after layers bound l states = same-open layers l (spared_all layers bound states) states (length-spared layers bound states)
    (λ s. ap is_open (spared-at layers bound states s) ∙ open-stays (state_of states s) (within_bound layers bound (s % layers) states))

pub length-found : (good : List Bool) → length (found good) ≡ length good
length-found good = length-map good (λ (is_good : Bool). if is_good then Good else Unread)

pub ruleset lengths = (length-spared, length-found, length-set)

-- the search for an unread sector

step : (states : List State) (s : ℕ) → s < length states → next_unread states s ≡ cond (is_unread (state_of states s)) (Some s) (next_unread states (s + 1))
step states s h =
    let n : length states - s ≡ suc (length states - (s + 1)) = omega arith in
    ap (λ (m : ℕ). find (λ k. is_unread (state_of states k)) (range_with_len s m)) n

pub unread-passed : (states : List State) (s : ℕ) → s < length states → is_unread (state_of states s) ≡ false → next_unread states s ≡ next_unread states (s + 1)
unread-passed states s h isnt = step states s h ∙ ap (λ (b : Bool). cond b (Some s) (next_unread states (s + 1))) isnt

pub unread-here : (states : List State) (s : ℕ) → s < length states → is_unread (state_of states s) ≡ true → next_unread states s ≡ Some s
unread-here states s h is = step states s h ∙ ap (λ (b : Bool). cond b (Some s) (next_unread states (s + 1))) is

pub none-unread : (states : List State) (s : ℕ) → length states ≤ s → next_unread states s ≡ None
none-unread states s h =
    let n : length states - s ≡ 0 = omega arith in
    ap (λ (m : ℕ). find (λ k. is_unread (state_of states k)) (range_with_len s m)) n
