-- The laws of the rest of a reading.
use Rattle.std.proofs.Common.{inl, inr, ◌≡◌, ℕ, ◌+◌, ◌-◌, ◌/◌, ◌<◌, ◌≤◌, ⊎_elim, zero, suc, List, length, refl, sym, ap, ◌∙◌, arith, eqb}
use Rattle.std.specs.Prelude.{◌⊎◌, Bool, true, false, ◌≢◌, ◌==◌, ◌&&◌, if◌then◌else◌, IfSome, Option, Some, None}
use Rattle.std.specs.Option.{option_map, unwrap_or}
use Rattle.std.specs.Fn.{iterate}
use Rattle.std.proofs.lemmas.List.{length-map, get_or-map, get_or_past}
use Rattle.std.proofs.lemmas.Bool.{cases_lt, false≢true, cond-true, cond-false, eq-eqb, ne_eqb}
use Rattle.std.proofs.lemmas.Option.{none-some}
use Rattle.rs01_intervals.specs.Runs.{longest}
use Rattle.rs01_intervals.specs.Maximal.{flag_at, IsMaximal}
use Rattle.rs01_intervals.proofs.Choosing.{longest-is-maximal, none-means-clear}
use Rattle.rs01_states.specs.declared.state.State.{State}
use Rattle.rs01_states.specs.declared.state.State.TheVariants.{Good}
use Rattle.rs01_states.specs.Sparing.{is_unread, state_of}
use Rattle.rs01_states.proofs.StateLemmas.{unread-inside}
use Rattle.rs01_linear.specs.Asking.{Asking, kind_of}
use Rattle.rs01_turns.specs.Turns.{NoneUnread, Reading, Terms, after_ask, after_next, asking_at, asking_for, asking_within, is_at, new_turn, next_of, next_sector, rest, step, turn_start, unread_flags}
use Rattle.rs01_turns.specs.Laws.{RestOfDone, RestOfNext}
use Rattle.rs01_turns.proofs.Unreads.{unreads, unreads-few, unreads-none, Marks, after-marks, after-less}

-- where a turn starts

some-is : (a b : ℕ) → Some a ≡ Some b → a ≡ b
some-is a b e = ap (λ (o : Option ℕ). unwrap_or o 0) e

pub flag-of : (states : List State) (s : ℕ) → flag_at (unread_flags states) s ≡ is_unread (state_of states s)
flag-of states s = ⊎_elim
    (λ lt. get_or-map is_unread states s Good false lt)
    (λ le. get_or_past (unread_flags states) s false (omega (arith, length-map states is_unread, le)) ∙ sym (ap is_unread (get_or_past states s Good le)))
    (cases_lt s (length states))

-- a turn starts within its run
pub start-from : (b : Bool) (a e : ℕ) → a < e → a ≤ (if b then a else a + (e - a) / 2)
start-from true a e some = omega arith
start-from false a e some = omega arith

pub start-below : (b : Bool) (a e : ℕ) → a < e → (if b then a else a + (e - a) / 2) < e
start-below true a e some = omega (arith, some)
start-below false a e some = omega (arith, some)

start-set : (flags : List Bool) (n : ℕ) (run : Option (ℕ × ℕ)) (s : ℕ) → IfSome run (IsMaximal flags) → option_map (turn_start n) run ≡ Some s → flag_at flags s ≡ true
start-set flags n None s max h = absurd (none-some s h)
start-set flags n (Some run) s max h =
    let whole : Bool = (run.0 == 0) && (run.1 == n) in
    let at : turn_start n run ≡ s = some-is _ _ h in
    ap (λ (k : ℕ). flag_at flags k) (sym at) ∙ max.set (turn_start n run) (start-from whole run.0 run.1 max.some) (start-below whole run.0 run.1 max.some)

pub start-unread : (states : List State) (s : ℕ) → new_turn states ≡ Some s → is_unread (state_of states s) ≡ true
unfolding new_turn
start-unread states s h =
    sym (flag-of states s) ∙ start-set (unread_flags states) (length states) (longest (unread_flags states)) s (longest-is-maximal (unread_flags states)) h

no-start : (n : ℕ) (run : Option (ℕ × ℕ)) → option_map (turn_start n) run ≡ None → run ≡ None
no-start n None h = refl
no-start n (Some run) h = absurd (none-some _ (sym h))

pub start-none : (states : List State) → new_turn states ≡ None → NoneUnread states
unfolding new_turn
start-none states h s =
    sym (flag-of states s) ∙ none-means-clear (unread_flags states) (no-start (length states) (longest (unread_flags states)) h) s

placed-unread : (states : List State) (p s : ℕ) (b : Bool) → is_unread (state_of states p) ≡ b → (if b then Some p else new_turn states) ≡ Some s → is_unread (state_of states s) ≡ true
placed-unread states p s true e h = ap (λ (k : ℕ). is_unread (state_of states k)) (sym (some-is p s h)) ∙ e
placed-unread states p s false e h = start-unread states s h

placed-none : (states : List State) (p : ℕ) (b : Bool) → (if b then Some p else new_turn states) ≡ None → NoneUnread states
placed-none states p true h = absurd (none-some p (sym h))
placed-none states p false h = start-none states h

pub next-unread : (states : List State) (place : Option ℕ) (s : ℕ) → next_sector states place ≡ Some s → is_unread (state_of states s) ≡ true
unfolding next_sector
next-unread states None s h = start-unread states s h
next-unread states (Some p) s h = placed-unread states p s (is_unread (state_of states p)) refl h

pub next-none : (states : List State) (place : Option ℕ) → next_sector states place ≡ None → NoneUnread states
unfolding next_sector
next-none states None h = start-none states h
next-none states (Some p) h = placed-none states p (is_unread (state_of states p)) h

-- asks until none is unread

pub none-still : (terms : Terms) (now : Reading) → next_of now ≡ None → step terms now ≡ now
unfolding step
none-still terms now h = ap (after_next terms now) h

pub some-steps : (terms : Terms) (now : Reading) (s : ℕ) → next_of now ≡ Some s → step terms now ≡ after_ask terms now s
unfolding step
some-steps terms now s h = ap (after_next terms now) h

pub ask-less : (terms : Terms) (now : Reading) (s : ℕ) → next_of now ≡ Some s → unreads (after_ask terms now s).states + 1 ≤ unreads now.states
unfolding after_ask
ask-less terms now s h = after-less terms.shape now.states s (kind_of (asking_at terms now s)) (next-unread now.states now.place s h)

pub ask-marks : (terms : Terms) (now : Reading) (s : ℕ) → next_of now ≡ Some s → Marks now.states (after_ask terms now s).states s
unfolding after_ask
ask-marks terms now s h = after-marks terms.shape now.states s (kind_of (asking_at terms now s)) (next-unread now.states now.place s h)

-- none is next, or one is
pub cases-next : (next : Option ℕ) → (next ≡ None) ⊎ ((s : ℕ) × (next ≡ Some s))
cases-next None = inl refl
cases-next (Some s) = inr (s, refl)

nothing-less : (n m : ℕ) → n ≤ 0 → m + 1 ≤ n → ⊥
nothing-less n m few less = omega (arith, few, less)

-- within as many asks as sectors are unread no more are asked for
pub step-less : (terms : Terms) (now : Reading) (n : ℕ) → unreads now.states ≤ suc n → unreads (step terms now).states ≤ n
step-less terms now n few = ⊎_elim
    (λ h. rw (none-still terms now h) (omega (arith, unreads-none now.states (next-none now.states now.place h))))
    (λ h. rw (some-steps terms now h.0 h.1) (omega (arith, few, ask-less terms now h.0 h.1)))
    (cases-next (next_of now))

pub none-next : (terms : Terms) (now : Reading) → unreads now.states ≤ 0 → next_of now ≡ None
none-next terms now few = ⊎_elim
    (λ h. h)
    (λ h. absurd (nothing-less (unreads now.states) _ few (ask-less terms now h.0 h.1)))
    (cases-next (next_of now))

iterate-last : {A : Type 0} (f : A → A) (n : ℕ) (x : A) → iterate f n (f x) ≡ f (iterate f n x)
iterate-last f zero x = refl
iterate-last f (suc n) x = iterate-last f n (f x)

ends-still : (terms : Terms) (n : ℕ) (now : Reading) → unreads now.states ≤ n → step terms (iterate (step terms) n now) ≡ iterate (step terms) n now
ends-still terms zero now few = none-still terms now (none-next terms now few)
ends-still terms (suc n) now few = ends-still terms n (step terms now) (step-less terms now n few)

pub rest-next : (terms : Terms) (now : Reading) (s : ℕ) → next_of now ≡ Some s → rest terms (after_ask terms now s) ≡ rest terms now
unfolding rest
rest-next terms now s h =
    let long = (ask-marks terms now s h).long in
    ap (λ (n : ℕ). iterate (step terms) n (after_ask terms now s)) long
    ∙ ap (λ (r : Reading). iterate (step terms) (length now.states) r) (sym (some-steps terms now s h))
    ∙ iterate-last (step terms) (length now.states) now
    ∙ ends-still terms (length now.states) now (unreads-few now.states)

-- how a sector is asked for

asking-more : (terms : Terms) (n : ℕ) (now : Reading) (s : ℕ) → unreads now.states ≤ n → asking_within terms (suc n) now s ≡ asking_within terms n now s
unfolding asking_within
asking-more terms zero now s few = ap (λ (o : Option ℕ). if is_at o s then Some (asking_at terms now s) else None) (none-next terms now few)
asking-more terms (suc n) now s few =
    ap (λ (o : Option Asking). if is_at (next_of now) s then Some (asking_at terms now s) else o) (asking-more terms n (step terms now) s (step-less terms now n few))

nothing-some : 1 ≤ 0 → ⊥
nothing-some some = omega (arith, some)

pub asking-here : (terms : Terms) (n : ℕ) (now : Reading) (s : ℕ) → 1 ≤ n → next_of now ≡ Some s → asking_within terms n now s ≡ Some (asking_at terms now s)
unfolding asking_within
asking-here terms zero now s some h = absurd (nothing-some some)
asking-here terms (suc n) now s some h =
    ap (λ (o : Option ℕ). if is_at o s then Some (asking_at terms now s) else asking_within terms n (step terms now) s) h
    ∙ cond-true (eqb s s) (Some (asking_at terms now s)) (asking_within terms n (step terms now) s) (eq-eqb s s refl)

pub asking-later : (terms : Terms) (n : ℕ) (now : Reading) (s k : ℕ) → next_of now ≡ Some s → s ≢ k → asking_within terms (suc n) now k ≡ asking_within terms n (after_ask terms now s) k
unfolding asking_within
asking-later terms n now s k h d =
    ap (λ (o : Option ℕ). if is_at o k then Some (asking_at terms now k) else asking_within terms n (step terms now) k) h
    ∙ cond-false (eqb s k) (Some (asking_at terms now k)) (asking_within terms n (step terms now) k) (ne_eqb s k d)
    ∙ ap (λ (r : Reading). asking_within terms n r k) (some-steps terms now s h)

pub asking-next : (terms : Terms) (now : Reading) (s k : ℕ) → next_of now ≡ Some s → s ≢ k → asking_for terms (after_ask terms now s) k ≡ asking_for terms now k
unfolding asking_for
asking-next terms now s k h d =
    ap (λ (n : ℕ). asking_within terms n (after_ask terms now s) k) (ask-marks terms now s h).long
    ∙ sym (asking-later terms (length now.states) now s k h d)
    ∙ asking-more terms (length now.states) now k (unreads-few now.states)

pub asking-first : (terms : Terms) (now : Reading) (s : ℕ) → next_of now ≡ Some s → asking_for terms now s ≡ Some (asking_at terms now s)
unfolding asking_for
asking-first terms now s h =
    asking-here terms (length now.states) now s (omega (arith, unread-inside now.states s (next-unread now.states now.place s h))) h

other-unread : (xs : List State) (s k : ℕ) → is_unread (state_of xs s) ≡ false → is_unread (state_of xs k) ≡ true → s ≢ k
other-unread xs s k was h e = false≢true (sym was ∙ ap (λ (j : ℕ). is_unread (state_of xs j)) e ∙ h)

pub rest-of-next : RestOfNext
rest-of-next terms now s h =
    let m = ask-marks terms now s h in
    record {
      rest_is = rest-next terms now s h;
      asking_here = asking-first terms now s h;
      asking_other = λ k unread. asking-next terms now s k h (other-unread (after_ask terms now s).states s k m.gone unread);
      stays = m.stays;
    }

-- the end

iterate-still : {A : Type 0} (f : A → A) (n : ℕ) (x : A) → f x ≡ x → iterate f n x ≡ x
iterate-still f zero x h = refl
iterate-still f (suc n) x h = ap (iterate f n) h ∙ iterate-still f n x h

pub done-next : (states : List State) (place : Option ℕ) → NoneUnread states → next_sector states place ≡ None
done-next states place none = ⊎_elim
    (λ h. h)
    (λ h. absurd (false≢true (sym (none h.0) ∙ next-unread states place h.0 h.1)))
    (cases-next (next_sector states place))

pub rest-of-done : RestOfDone
unfolding rest
rest-of-done terms now none = iterate-still (step terms) (length now.states) now (none-still terms now (done-next now.states now.place none))
