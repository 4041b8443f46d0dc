-- Layers that come within their bound stay so, and exactly the needless sectors are spared.
use Rattle.std.proofs.Common.{inl, inr, ◌≡◌, ℕ, zero, suc, ◌+◌, ◌%◌, ◌<◌, ◌≤◌, ⊎_elim, List, length, refl, sym, ap, subst, ◌∙◌, arith, get_or}
use Rattle.std.specs.Prelude.{◌⊎◌, ◌≢◌, ◌==◌, ◌&&◌, Bool, true, false, nat_le, if◌then◌else◌, IsSome, Option, Some, None}
use Rattle.std.specs.Fn.{iterate}
use Rattle.std.specs.List.{count_by, range_with_len}
use Rattle.std.proofs.Math.ListN.{set}
use Rattle.std.proofs.lemmas.Bool.{cases_Bool, cases_eq, cases_lt, false≢true}
use Rattle.std.proofs.lemmas.List.{get_or-map, get_or_past, length-map, length-set}
use Rattle.std.proofs.lemmas.List.Sums.{sum_by-cons}
use Rattle.rs01_layers.specs.Layout.{layers_of}
use Rattle.rs01_layers.specs.declared.shape.Shape.{Shape}
use Rattle.rs01_states.specs.declared.state.State.{State}
use Rattle.rs01_states.specs.declared.state.State.TheVariants as state
use Rattle.rs01_states.specs.Sparing.{IsUnread, found, is_open, is_unread, is_within, lacks, layer_count, open_count, settled, state_of, within_bound}
use Rattle.rs01_states.proofs.SparedLemmas.{none-is-left, others-stay, spared-lie-within}
use Rattle.rs01_states.proofs.StateLemmas.{is-beyond, is-inside, same-open, set-elsewhere, set-here, unread-is-open, unread-inside}
use Rattle.rs01_linear.specs.Asking.{Asking, kind_of}
use Rattle.rs01_linear.specs.declared.asking.Asked.{Asked}
use Rattle.rs01_linear.specs.declared.asking.Asked.TheVariants.{Altered, Read, Unreadable}
use Rattle.rs01_turns.specs.Turns.{Reading, Terms, after_ask, asking_at, asking_for, next_of, rest, states_after, step}
use Rattle.rs01_turns.specs.Ends.{IsStateBy}
use Rattle.rs01_turns.specs.Moments.{Setting}
use Rattle.rs01_turns.specs.Layers.{AskIsSparing, BeyondAreAsked, EndIsSparing, IsSparing, SettledAreLeft, SettledStay, StartIsSparing, UnaskedLieWithin, WithinGoesOn, WithinToTheEnd, lies_within, start_with, was_good}
use Rattle.rs01_turns.proofs.Unreads.{after-marks}
use Rattle.rs01_turns.proofs.Turning.{ask-marks, cases-next, next-unread, none-still, some-steps}
use Rattle.rs01_turns.proofs.Times.{counted}
use Rattle.rs01_turns.proofs.Ending.{others-are-left, settled-still, unread-ends}

-- counts

counted-fewer : (a b : Bool) → (b ≡ true → a ≡ true) → counted b ≤ counted a
counted-fewer true true h = omega arith
counted-fewer true false h = omega arith
counted-fewer false true h = absurd (false≢true (h refl))
counted-fewer false false h = omega arith

count-fewer : (p q : ℕ → Bool) (a n : ℕ) → ((k : ℕ) → q k ≡ true → p k ≡ true) → count_by q (range_with_len a n) ≤ count_by p (range_with_len a n)
count-fewer p q a zero fewer = omega arith
count-fewer p q a (suc n) fewer =
    omega (
      arith,
      sum_by-cons (λ (k : ℕ). counted (q k)) a (range_with_len (a + 1) n),
      sum_by-cons (λ (k : ℕ). counted (p k)) a (range_with_len (a + 1) n),
      counted-fewer (p a) (q a) (fewer a),
      count-fewer p q (a + 1) n fewer,
    )

-- no sector becomes open, where only unread ones change
abbrev OnlyUnreadChange : List State → List State → Type 0
OnlyUnreadChange xs ys = (s : ℕ) → is_unread (state_of xs s) ≡ false → state_of ys s ≡ state_of xs s

open-before : (xs ys : List State) → OnlyUnreadChange xs ys → (s : ℕ) → is_open (state_of ys s) ≡ true → is_open (state_of xs s) ≡ true
open-before xs ys only s is = ⊎_elim
    (λ unread. unread-is-open (state_of xs s) unread)
    (λ not_. sym (ap is_open (only s not_)) ∙ is)
    (cases_Bool (is_unread (state_of xs s)))

both-true : (a b c : Bool) → (b ≡ true → c ≡ true) → (a && b) ≡ true → (a && c) ≡ true
both-true true b c h is = h is
both-true false b c h is = is

open-fewer : (layers l : ℕ) (xs ys : List State) → length ys ≡ length xs → OnlyUnreadChange xs ys → open_count layers l ys ≤ open_count layers l xs
unfolding open_count
open-fewer layers l xs ys long only =
    let fewer = count-fewer (lacks layers l xs) (lacks layers l ys) 0 (length xs)
    (λ k. both-true (k % layers == l) (is_open (state_of ys k)) (is_open (state_of xs k)) (open-before xs ys only k)) in
    let same : count_by (lacks layers l ys) (range_with_len 0 (length ys)) ≡ count_by (lacks layers l ys) (range_with_len 0 (length xs)) =
    ap (λ (n : ℕ). count_by (lacks layers l ys) (range_with_len 0 n)) long in
    omega (arith, fewer, same)

bound-stays : (layers bound l : ℕ) (xs ys : List State) → length ys ≡ length xs → OnlyUnreadChange xs ys → within_bound layers bound l xs ≡ true → within_bound layers bound l ys ≡ true
bound-stays layers bound l xs ys long only was =
    let fewer = open-fewer layers l xs ys long only in
    ⊎_elim
    (λ (over : bound < open_count layers l xs). absurd (false≢true (sym (is-beyond layers bound l xs over) ∙ was)))
    (λ (few : open_count layers l xs ≤ bound). is-inside layers bound l ys (omega (arith, fewer, few)))
    (cases_lt bound (open_count layers l xs))

pub within-stays : (shape : Option Shape) (l : ℕ) (xs ys : List State) → length ys ≡ length xs → OnlyUnreadChange xs ys → is_within shape l xs ≡ true → is_within shape l ys ≡ true
within-stays None l xs ys long only was = was
within-stays (Some shape) l xs ys long only was = bound-stays (layers_of shape.sectors shape.parity) shape.parity l xs ys long only was

-- a sector that fails was open before
failed-open : (xs : List State) (s k : ℕ) → IsUnread xs s → is_open (state_of (set xs s state.Failed) k) ≡ is_open (state_of xs k)
failed-open xs s k was = ⊎_elim
    (λ (e : k ≡ s).
    ap (λ (j : ℕ). is_open (state_of (set xs s state.Failed) j)) e ∙ ap is_open (set-here xs s state.Failed (unread-inside xs s was))
    ∙ sym (unread-is-open (state_of xs s) was) ∙ ap (λ (j : ℕ). is_open (state_of xs j)) (sym e))
    (λ (d : k ≢ s). ap is_open (set-elsewhere xs s k state.Failed d))
    (cases_eq k s)

failed-bound : (layers bound l s : ℕ) (xs : List State) → IsUnread xs s → within_bound layers bound l (set xs s state.Failed) ≡ within_bound layers bound l xs
unfolding within_bound
failed-bound layers bound l s xs was =
    ap (λ (n : ℕ). nat_le n bound) (same-open layers l (set xs s state.Failed) xs (length-set xs s state.Failed) (λ k. failed-open xs s k was))

failed-within : (shape : Option Shape) (l s : ℕ) (xs : List State) → IsUnread xs s → is_within shape l (set xs s state.Failed) ≡ is_within shape l xs
failed-within None l s xs was = refl
failed-within (Some shape) l s xs was = failed-bound (layers_of shape.sectors shape.parity) shape.parity l s xs was

-- the sparing

not-spared : (x : State) → x ≡ state.Spared → is_unread x ≡ true → ⊥
not-spared x is unread = false≢true (sym (ap is_unread is) ∙ unread)

good-not : state.Good ≡ state.Spared → ⊥
good-not e = cc

failed-not : state.Failed ≡ state.Spared → ⊥
failed-not e = cc

-- what is spared is so by now, or was before
settled-spared : (shape : Option Shape) (xs : List State) (s : ℕ) → state_of (settled shape xs) s ≡ state.Spared → (lies_within shape (settled shape xs) s ≡ true) ⊎ (state_of xs s ≡ state.Spared)
settled-spared shape xs s is = ⊎_elim
    (λ unread. inl (spared-lie-within shape xs s unread is))
    (λ not_. inr (sym (others-stay shape xs s not_) ∙ is))
    (cases_Bool (is_unread (state_of xs s)))

set-spared : (xs : List State) (s k : ℕ) (x : State) → (x ≡ state.Spared → ⊥) → s < length xs → state_of (set xs s x) k ≡ state.Spared → state_of xs k ≡ state.Spared
set-spared xs s k x none there is = ⊎_elim
    (λ (e : k ≡ s). absurd (none (sym (set-here xs s x there) ∙ ap (λ (j : ℕ). state_of (set xs s x) j) (sym e) ∙ is)))
    (λ (d : k ≢ s). sym (set-elsewhere xs s k x d) ∙ is)
    (cases_eq k s)

after-spared : (shape : Option Shape) (xs : List State) (s k : ℕ) (asked : Asked) → IsUnread xs s → state_of (states_after shape xs s asked) k ≡ state.Spared
    → (lies_within shape (states_after shape xs s asked) k ≡ true) ⊎ (state_of xs k ≡ state.Spared)
unfolding states_after
after-spared shape xs s k Read was is = ⊎_elim
    (λ within. inl within)
    (λ before. inr (set-spared xs s k state.Good good-not (unread-inside xs s was) before))
    (settled-spared shape (set xs s state.Good) k is)
after-spared shape xs s k Unreadable was is = inr (set-spared xs s k state.Failed failed-not (unread-inside xs s was) is)
after-spared shape xs s k Altered was is = inr (set-spared xs s k state.Failed failed-not (unread-inside xs s was) is)

failed-unread : (shape : Option Shape) (xs : List State) (s k : ℕ) → IsUnread xs s → IsSparing shape xs → IsUnread (set xs s state.Failed) k → lies_within shape (set xs s state.Failed) k ≡ false
failed-unread shape xs s k was sparing is =
    failed-within shape (k % layer_count shape) s xs was
    ∙ sparing.unread k (⊎_elim
    (λ (e : k ≡ s). ap (λ (j : ℕ). is_unread (state_of xs j)) e ∙ was)
    (λ (d : k ≢ s). sym (ap is_unread (set-elsewhere xs s k state.Failed d)) ∙ is)
    (cases_eq k s))

after-unread : (shape : Option Shape) (xs : List State) (s k : ℕ) (asked : Asked) → IsUnread xs s → IsSparing shape xs → IsUnread (states_after shape xs s asked) k
    → lies_within shape (states_after shape xs s asked) k ≡ false
unfolding states_after
after-unread shape xs s k Read was sparing is = none-is-left shape (set xs s state.Good) k is
after-unread shape xs s k Unreadable was sparing is = failed-unread shape xs s k was sparing is
after-unread shape xs s k Altered was sparing is = failed-unread shape xs s k was sparing is

after-sparing : (shape : Option Shape) (xs : List State) (s : ℕ) (asked : Asked) → IsUnread xs s → IsSparing shape xs → IsSparing shape (states_after shape xs s asked)
after-sparing shape xs s asked was sparing =
    let m = after-marks shape xs s asked was in
    record {
      unread = λ k is. after-unread shape xs s k asked was sparing is;
      spared = λ k is. ⊎_elim
          (λ within. within)
          (λ before. within-stays shape (k % layer_count shape) xs (states_after shape xs s asked) m.long m.stays (sparing.spared k before))
          (after-spared shape xs s k asked was is);
    }

pub ask-is-sparing : AskIsSparing
unfolding after_ask
ask-is-sparing terms now s next sparing =
    after-sparing terms.shape now.states s (kind_of (asking_at terms now s)) (next-unread now.states now.place s next) sparing

pub step-sparing : (terms : Terms) (now : Reading) → IsSparing terms.shape now.states → IsSparing terms.shape (step terms now).states
step-sparing terms now sparing = ⊎_elim
    (λ h. subst (λ (r : Reading). IsSparing terms.shape r.states) (sym (none-still terms now h)) sparing)
    (λ h. subst (λ (r : Reading). IsSparing terms.shape r.states) (sym (some-steps terms now h.0 h.1)) (ask-is-sparing terms now h.0 h.1 sparing))
    (cases-next (next_of now))

pub steps-sparing : (terms : Terms) (n : ℕ) (now : Reading) → IsSparing terms.shape now.states → IsSparing terms.shape (iterate (step terms) n now).states
steps-sparing terms zero now sparing = sparing
steps-sparing terms (suc n) now sparing = steps-sparing terms n (step terms now) (step-sparing terms now sparing)

pub end-is-sparing : EndIsSparing
unfolding rest
end-is-sparing terms now sparing = steps-sparing terms (length now.states) now sparing

-- the start

abbrev start_state : Bool → State
start_state is_good = if is_good then state.Good else state.Unread

found-kinds : (good : List Bool) (s : ℕ) → (state_of (found good) s ≡ state.Good) ⊎ (IsUnread (found good) s)
found-kinds good s = ⊎_elim
    (λ (there : s < length good). by (get_or good s false) (get_or-map start_state good s false state.Good there))
    (λ (past : length good ≤ s). inl (get_or_past (found good) s state.Good (omega (arith, past, length-map good start_state))))
    (cases_lt s (length good))
  where
    by : (b : Bool) → state_of (found good) s ≡ start_state b → (state_of (found good) s ≡ state.Good) ⊎ (IsUnread (found good) s)
    by true e = inl e
    by false e = inr (ap is_unread e)

pub start-is-sparing : StartIsSparing
start-is-sparing shape good = record {
  unread = λ s is. none-is-left shape (found good) s is;
  spared = λ s is. ⊎_elim
      (λ within. within)
      (λ before. absurd (⊎_elim
      (λ is_good. good-not (sym is_good ∙ before))
      (λ unread. not-spared (state_of (found good) s) before unread)
      (found-kinds good s)))
      (settled-spared shape (found good) s is);
}

-- layers within their bound

step-within : (terms : Terms) (now : Reading) (l : ℕ) → is_within terms.shape l now.states ≡ true → is_within terms.shape l (step terms now).states ≡ true
step-within terms now l was = ⊎_elim
    (λ h. subst (λ (r : Reading). is_within terms.shape l r.states ≡ true) (sym (none-still terms now h)) was)
    (λ h.
    let m = ask-marks terms now h.0 h.1 in
    subst (λ (r : Reading). is_within terms.shape l r.states ≡ true) (sym (some-steps terms now h.0 h.1))
    (within-stays terms.shape l now.states (after_ask terms now h.0).states m.long m.stays was))
    (cases-next (next_of now))

steps-within : (terms : Terms) (n : ℕ) (now : Reading) (l : ℕ) → is_within terms.shape l now.states ≡ true → is_within terms.shape l (iterate (step terms) n now).states ≡ true
steps-within terms zero now l was = was
steps-within terms (suc n) now l was = steps-within terms n (step terms now) l (step-within terms now l was)

pub within-to-the-end : WithinToTheEnd
unfolding rest
within-to-the-end terms now l was = steps-within terms (length now.states) now l was

pub within-goes-on : WithinGoesOn
within-goes-on f g l leads was =
    ap (λ (x : Setting). is_within x.terms.shape l g.states) leads.start.setting
    ∙ within-stays f.setting.terms.shape l f.states g.states leads.start.all (λ s not_. (leads.stays s not_).state_same) was

pub settled-are-left : SettledAreLeft
settled-are-left terms now s sparing within = ⊎_elim
    (λ unread. absurd (false≢true (sym (sparing.unread s unread) ∙ within)))
    (λ not_. others-are-left terms now s not_)
    (cases_Bool (is_unread (state_of now.states s)))

pub settled-stay : SettledStay
settled-stay f g s leads sparing within = ⊎_elim
    (λ unread. absurd (false≢true (sym (sparing.unread s unread) ∙ within)))
    (λ not_. leads.stays s not_)
    (cases_Bool (is_unread (state_of f.states s)))

-- who is asked for

found-lacking : (good : List Bool) (s : ℕ) → was_good good s ≡ false → IsUnread (found good) s
found-lacking good s lacking = ⊎_elim
    (λ (there : s < length good).
    ap is_unread (get_or-map start_state good s true state.Good there
    ∙ ap start_state lacking))
    (λ (past : length good ≤ s). absurd (false≢true (sym lacking ∙ get_or_past good s true past)))
    (cases_lt s (length good))

pub unasked-lie-within : UnaskedLieWithin
unasked-lie-within terms good views s lacking none =
    let now = start_with terms.shape good views in
    let sparing = start-is-sparing terms.shape good in
    let end = end-is-sparing terms now sparing in
    ⊎_elim
    (λ unread. end.spared s (subst (λ (o : Option Asking). IsStateBy o (state_of (rest terms now).states s)) none (unread-ends terms now s unread)))
    (λ not_. ⊎_elim
    (λ (within : lies_within terms.shape now.states s ≡ true). within-to-the-end terms now (s % layer_count terms.shape) within)
    (λ (before : state_of (found good) s ≡ state.Spared). absurd (not-spared (state_of (found good) s) before (found-lacking good s lacking)))
    (settled-spared terms.shape (found good) s (start-spared terms.shape (found good) s (found-lacking good s lacking) not_)))
    (cases_Bool (is_unread (state_of now.states s)))
  where
    start-spared : (shape : Option Shape) (xs : List State) (s : ℕ) → IsUnread xs s → is_unread (state_of (settled shape xs) s) ≡ false → state_of (settled shape xs) s ≡ state.Spared
    start-spared shape xs s was not_ = ⊎_elim
        (λ still. absurd (false≢true (sym not_ ∙ still)))
        (λ spared. spared)
        (settled-still shape xs s was)

is-some-or : {A : Type 0} (o : Option A) → (o ≡ None) ⊎ IsSome o
is-some-or None = inl refl
is-some-or (Some x) = inr refl

pub beyond-are-asked : BeyondAreAsked
beyond-are-asked terms good views s beyond = ⊎_elim
    (λ is_good. inl is_good)
    (λ lacking. ⊎_elim
    (λ none. absurd (false≢true (sym beyond ∙ unasked-lie-within terms good views s lacking none)))
    (λ some. inr some)
    (is-some-or (asking_for terms (start_with terms.shape good views) s)))
    (cases_Bool (was_good good s))
