-- What each sector comes to at the end.
use Rattle.std.proofs.Common.{inl, inr, ◌≡◌, ℕ, zero, suc, ◌%◌, ◌≤◌, ⊎_elim, List, length, refl, sym, ap, subst, ◌∙◌, arith}
use Rattle.std.specs.Prelude.{◌⊎◌, ◌≢◌, Bool, true, false, if◌then◌else◌, Option, Some, None}
use Rattle.std.specs.Fn.{iterate}
use Rattle.std.proofs.Math.ListN.{set}
use Rattle.std.proofs.lemmas.Bool.{cases_eq, false≢true}
use Rattle.rs01_layers.specs.Layout.{layers_of}
use Rattle.rs01_layers.specs.declared.shape.Shape.{Shape}
use Rattle.rs01_states.specs.declared.state.State.{State}
use Rattle.rs01_states.specs.declared.state.State.TheVariants as state
use Rattle.rs01_states.specs.Sparing.{IsUnread, is_unread, settled, spared_where, state_of, within_bound}
use Rattle.rs01_states.proofs.SparedLemmas.{others-stay}
use Rattle.rs01_states.proofs.StateLemmas.{set-elsewhere, set-here, spared-at, unread-inside}
use Rattle.rs01_linear.specs.Asking.{Asking, kind_of}
use Rattle.rs01_linear.specs.declared.asking.Asked.{Asked}
use Rattle.rs01_linear.specs.declared.asking.Asked.TheVariants.{Altered, Read, Unreadable}
use Rattle.rs01_turns.specs.Turns.{Reading, Terms, after_ask, asking_at, asking_for, asking_within, is_at, next_of, rest, states_after, step}
use Rattle.rs01_turns.specs.Ends.{IsStateBy, OthersAreLeft, UnreadEnds, state_by}
use Rattle.rs01_turns.proofs.Unreads.{unread-other, unreads, unreads-few}
use Rattle.rs01_turns.proofs.Turning.{ask-less, ask-marks, asking-here, asking-later, cases-next, next-none, next-unread, none-next, none-still, some-steps}

-- what an answer makes of the states

pub state-here : (shape : Option Shape) (xs : List State) (s : ℕ) (asked : Asked) → IsUnread xs s → state_of (states_after shape xs s asked) s ≡ state_by asked
unfolding states_after
state-here shape xs s Read was =
    let there = unread-inside xs s was in
    others-stay shape (set xs s state.Good) s (ap is_unread (set-here xs s state.Good there)) ∙ set-here xs s state.Good there
state-here shape xs s Unreadable was = set-here xs s state.Failed (unread-inside xs s was)
state-here shape xs s Altered was = set-here xs s state.Failed (unread-inside xs s was)

-- a state that was unread is still, or spared
abbrev pub IsStill : State → Type 0
IsStill x = (is_unread x ≡ true) ⊎ (x ≡ state.Spared)

spared-still : (x : State) (enough : Bool) → is_unread x ≡ true → IsStill (spared_where x enough)
unfolding spared_where
spared-still state.Unread true h = inr refl
spared-still state.Unread false h = inl refl
spared-still state.Good enough h = absurd (false≢true h)
spared-still state.Failed enough h = absurd (false≢true h)
spared-still state.Spared enough h = absurd (false≢true h)

pub settled-still : (shape : Option Shape) (xs : List State) (k : ℕ) → IsUnread xs k → IsStill (state_of (settled shape xs) k)
settled-still None xs k was = inl was
settled-still (Some shape) xs k was =
    let layers = layers_of shape.sectors shape.parity in
    subst IsStill (sym (spared-at layers shape.parity xs k)) (spared-still (state_of xs k) (within_bound layers shape.parity (k % layers) xs) was)

pub other-still : (shape : Option Shape) (xs : List State) (s k : ℕ) (asked : Asked) → k ≢ s → IsUnread xs k → IsStill (state_of (states_after shape xs s asked) k)
unfolding states_after
other-still shape xs s k Read d was = settled-still shape (set xs s state.Good) k (ap is_unread (set-elsewhere xs s k state.Good d) ∙ was)
other-still shape xs s k Unreadable d was = inl (ap is_unread (set-elsewhere xs s k state.Failed d) ∙ was)
other-still shape xs s k Altered d was = inl (ap is_unread (set-elsewhere xs s k state.Failed d) ∙ was)

ask-still : (terms : Terms) (now : Reading) (s k : ℕ) → k ≢ s → IsUnread now.states k → IsStill (state_of (after_ask terms now s).states k)
unfolding after_ask
ask-still terms now s k d was = other-still terms.shape now.states s k (kind_of (asking_at terms now s)) d was

ask-here : (terms : Terms) (now : Reading) (s : ℕ) → IsUnread now.states s → state_of (after_ask terms now s).states s ≡ state_by (kind_of (asking_at terms now s))
unfolding after_ask
ask-here terms now s was = state-here terms.shape now.states s (kind_of (asking_at terms now s)) was

by-not-unread : (asked : Asked) → is_unread (state_by asked) ≡ false
by-not-unread Read = refl
by-not-unread Unreadable = refl
by-not-unread Altered = refl

-- within some asks

pub record LeftWithin (terms : Terms) (n : ℕ) (now : Reading) (s : ℕ) : Type 0 where
  pub unasked : asking_within terms n now s ≡ None
  pub same : state_of (iterate (step terms) n now).states s ≡ state_of now.states s

pub none-within : (terms : Terms) (n : ℕ) (now : Reading) (s : ℕ) → next_of now ≡ None → asking_within terms (suc n) now s ≡ asking_within terms n now s
unfolding asking_within
none-within terms n now s h =
    ap (λ (o : Option ℕ). if is_at o s then Some (asking_at terms now s) else asking_within terms n (step terms now) s) h
    ∙ ap (λ (r : Reading). asking_within terms n r s) (none-still terms now h)

pub left-within : (terms : Terms) (n : ℕ) (now : Reading) (s : ℕ) → is_unread (state_of now.states s) ≡ false → LeftWithin terms n now s
unfolding asking_within
left-within terms zero now s not_ = record { unasked = refl; same = refl }
left-within terms (suc n) now s not_ = ⊎_elim
    (λ h.
    let later = left-within terms n now s not_ in
    record {
      unasked = none-within terms n now s h ∙ later.unasked;
      same = ap (λ (r : Reading). state_of (iterate (step terms) n r).states s) (none-still terms now h) ∙ later.same;
    })
    (λ h.
    let k = h.0 in
    let m = ask-marks terms now k h.1 in
    let was = next-unread now.states now.place k h.1 in
    let stays = m.stays s not_ in
    let later = left-within terms n (after_ask terms now k) s (ap is_unread stays ∙ not_) in
    record {
      unasked = asking-later terms n now k s h.1 (λ e. unread-other now.states k s was not_ (sym e)) ∙ later.unasked;
      same = ap (λ (r : Reading). state_of (iterate (step terms) n r).states s) (some-steps terms now k h.1) ∙ later.same ∙ stays;
    })
    (cases-next (next_of now))

pub others-are-left : OthersAreLeft
unfolding asking_for rest
others-are-left terms now s not_ =
    let left = left-within terms (length now.states) now s not_ in
    record { unasked = left.unasked; same = left.same }

nothing-unread : (now : Reading) (s : ℕ) → next_of now ≡ None → IsUnread now.states s → ⊥
nothing-unread now s h was = false≢true (sym (next-none now.states now.place h s) ∙ was)

unread-within : (terms : Terms) (n : ℕ) (now : Reading) (s : ℕ) → unreads now.states ≤ n → IsUnread now.states s → IsStateBy (asking_within terms n now s) (state_of (iterate (step terms) n now).states s)
unread-within terms zero now s few was = absurd (nothing-unread now s (none-next terms now few) was)
unread-within terms (suc n) now s few was = ⊎_elim
    (λ h. absurd (nothing-unread now s h was))
    (λ h.
    let k = h.0 in
    let next = after_ask terms now k in
    let end : state_of (iterate (step terms) n next).states s ≡ state_of (iterate (step terms) (suc n) now).states s =
    ap (λ (r : Reading). state_of (iterate (step terms) n r).states s) (sym (some-steps terms now k h.1)) in
    subst (λ (x : State). IsStateBy (asking_within terms (suc n) now s) x) end (⊎_elim
    (λ (e : k ≡ s).
    let here : next_of now ≡ Some s = h.1 ∙ ap (λ (j : ℕ). Some j) e in
    let is : state_of next.states s ≡ state_by (kind_of (asking_at terms now s)) =
    ap (λ (j : ℕ). state_of (after_ask terms now j).states s) e ∙ ask-here terms now s was in
    subst (λ (o : Option Asking). IsStateBy o (state_of (iterate (step terms) n next).states s)) (sym (asking-here terms (suc n) now s (omega arith) here))
    ((left-within terms n next s (ap is_unread is ∙ by-not-unread (kind_of (asking_at terms now s)))).same ∙ is))
    (λ (d : k ≢ s).
    subst (λ (o : Option Asking). IsStateBy o (state_of (iterate (step terms) n next).states s)) (sym (asking-later terms n now k s h.1 d)) (⊎_elim
    (λ unread. unread-within terms n next s (omega (arith, few, ask-less terms now k h.1)) unread)
    (λ spared.
    let left = left-within terms n next s (ap is_unread spared) in
    subst (λ (o : Option Asking). IsStateBy o (state_of (iterate (step terms) n next).states s)) (sym left.unasked) (left.same ∙ spared))
    (ask-still terms now k s (λ e. d (sym e)) was)))
    (cases_eq k s)))
    (cases-next (next_of now))

pub unread-ends : UnreadEnds
unfolding asking_for rest
unread-ends terms now s was = unread-within terms (length now.states) now s (unreads-few now.states) was
