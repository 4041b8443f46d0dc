-- How many sectors are unread, and that an answer leaves fewer.
use Rattle.std.proofs.Common.{◌≡◌, ℕ, ◌+◌, ◌%◌, ◌<◌, ◌≤◌, ⊎_elim, zero, suc, List, [], ◌∷◌, length, refl, sym, ap, ◌∙◌, arith}
use Rattle.std.specs.Prelude.{Bool, true, false, ◌≢◌, if◌then◌else◌, Option, Some, None}
use Rattle.std.proofs.Math.ListN.{set}
use Rattle.std.proofs.lemmas.List.{length-set}
use Rattle.std.proofs.lemmas.Bool.{cases_eq, false≢true}
use Rattle.rs01_layers.specs.Layout.{layers_of}
use Rattle.rs01_layers.specs.declared.shape.Shape.{Shape}
use Rattle.rs01_states.specs.declared.state.State.{State}
use Rattle.rs01_states.specs.declared.state.State.TheVariants.{Unread, Good, Failed, Spared}
use Rattle.rs01_states.specs.Sparing.{is_unread, settled, spared_where, state_of, within_bound}
use Rattle.rs01_states.proofs.SparedLemmas.{others-stay}
use Rattle.rs01_states.proofs.StateLemmas.{length-spared, set-elsewhere, set-here, spared-at, unread-inside}
use Rattle.rs01_linear.specs.declared.asking.Asked.{Asked}
use Rattle.rs01_linear.specs.declared.asking.Asked.TheVariants.{Altered, Read, Unreadable}
use Rattle.rs01_turns.specs.Turns.{NoneUnread, states_after}

-- how many are unread
abbrev pub unreads : List State → ℕ
unreads [] = 0
unreads (x ∷ xs) = (if is_unread x then 1 else 0) + unreads xs

pub unreads-few : (xs : List State) → unreads xs ≤ length xs
unreads-few [] = omega arith
unreads-few (x ∷ xs) = let few = unreads-few xs in grind (arith, few)

pub unreads-none : (xs : List State) → NoneUnread xs → unreads xs ≡ 0
unreads-none [] none = refl
unreads-none (x ∷ xs) none =
    let rest = unreads-none xs (λ s. none (suc s)) in
    let first : is_unread x ≡ false = none 0 in
    grind (arith, rest, first)

-- no sector becomes unread
abbrev pub Fewer : List State → List State → Type 0
Fewer xs ys = (s : ℕ) → is_unread (state_of ys s) ≡ true → is_unread (state_of xs s) ≡ true

one-fewer : (x y : Bool) (n m : ℕ) → (y ≡ true → x ≡ true) → m ≤ n → (if y then 1 else 0) + m ≤ (if x then 1 else 0) + n
one-fewer true true n m h le = omega (arith, le)
one-fewer true false n m h le = omega (arith, le)
one-fewer false true n m h le = absurd (false≢true (h refl))
one-fewer false false n m h le = omega (arith, le)

pub unreads-fewer : (xs ys : List State) → length ys ≡ length xs → Fewer xs ys → unreads ys ≤ unreads xs
unreads-fewer xs [] len fewer = omega arith
unreads-fewer [] (y ∷ ys) len fewer = omega (arith, len)
unreads-fewer (x ∷ xs) (y ∷ ys) len fewer =
    one-fewer (is_unread x) (is_unread y) (unreads xs) (unreads ys) (fewer 0) (unreads-fewer xs ys (omega (arith, len)) (λ s. fewer (suc s)))

pub unreads-less : (xs ys : List State) (s : ℕ) → length ys ≡ length xs → Fewer xs ys → is_unread (state_of xs s) ≡ true → is_unread (state_of ys s) ≡ false → unreads ys + 1 ≤ unreads xs
unreads-less [] ys s len fewer was is_not = absurd (false≢true was)
unreads-less (x ∷ xs) [] s len fewer was is_not = omega (arith, len)
unreads-less (x ∷ xs) (y ∷ ys) zero len fewer was is_not =
    let more = unreads-fewer xs ys (omega (arith, len)) (λ k. fewer (suc k)) in
    grind (arith, more, was, is_not)
unreads-less (x ∷ xs) (y ∷ ys) (suc s) len fewer was is_not =
    let more = unreads-less xs ys s (omega (arith, len)) (λ k. fewer (suc k)) was is_not in
    let both = one-fewer (is_unread x) (is_unread y) (unreads xs) (unreads ys + 1) (fewer 0) more in
    omega (arith, both)

-- the sparing

spared-was : (x : State) (w : Bool) → is_unread (spared_where x w) ≡ true → is_unread x ≡ true
unfolding spared_where
spared-was Unread w h = refl
spared-was Good true h = h
spared-was Good false h = h
spared-was Failed true h = h
spared-was Failed false h = h
spared-was Spared true h = h
spared-was Spared false h = h

pub settled-fewer : (shape : Option Shape) (xs : List State) → Fewer xs (settled shape xs)
settled-fewer None xs s h = h
settled-fewer (Some shape) xs s h =
    let layers = layers_of shape.sectors shape.parity in
    spared-was (state_of xs s) (within_bound layers shape.parity (s % layers) xs) (sym (ap is_unread (spared-at layers shape.parity xs s)) ∙ h)

pub settled-long : (shape : Option Shape) (xs : List State) → length (settled shape xs) ≡ length xs
settled-long None xs = refl
settled-long (Some shape) xs = length-spared (layers_of shape.sectors shape.parity) shape.parity xs

-- what marking an unread sector leaves
pub record Marks (xs ys : List State) (s : ℕ) : Type 0 where
  pub long : length ys ≡ length xs
  pub fewer : Fewer xs ys
  pub gone : is_unread (state_of ys s) ≡ false
  pub stays : (k : ℕ) → is_unread (state_of xs k) ≡ false → state_of ys k ≡ state_of xs k

set-fewer : (xs : List State) (s : ℕ) (x : State) → s < length xs → is_unread x ≡ false → Fewer xs (set xs s x)
set-fewer xs s x there h k was = ⊎_elim
    (λ e. absurd (false≢true (sym h ∙ sym (ap is_unread (set-here xs s x there)) ∙ ap (λ (j : ℕ). is_unread (state_of (set xs s x) j)) (sym e) ∙ was)))
    (λ d. sym (ap is_unread (set-elsewhere xs s k x d)) ∙ was)
    (cases_eq k s)

pub unread-other : (xs : List State) (s k : ℕ) → is_unread (state_of xs s) ≡ true → is_unread (state_of xs k) ≡ false → k ≢ s
unread-other xs s k was h e = false≢true (sym h ∙ ap (λ (j : ℕ). is_unread (state_of xs j)) e ∙ was)

set-marks : (xs : List State) (s : ℕ) (x : State) → is_unread (state_of xs s) ≡ true → is_unread x ≡ false → Marks xs (set xs s x) s
set-marks xs s x was h =
    let there = unread-inside xs s was in
    record {
      long = length-set xs s x;
      fewer = set-fewer xs s x there h;
      gone = ap is_unread (set-here xs s x there) ∙ h;
      stays = λ k is_not. set-elsewhere xs s k x (unread-other xs s k was is_not);
    }

pub after-marks : (shape : Option Shape) (xs : List State) (s : ℕ) (a : Asked) → is_unread (state_of xs s) ≡ true → Marks xs (states_after shape xs s a) s
unfolding states_after
after-marks shape xs s Read was =
    let set_ = set-marks xs s Good was refl in
    record {
      long = settled-long shape (set xs s Good) ∙ set_.long;
      fewer = λ k h. set_.fewer k (settled-fewer shape (set xs s Good) k h);
      gone = ap is_unread (others-stay shape (set xs s Good) s set_.gone) ∙ set_.gone;
      stays = λ k h. others-stay shape (set xs s Good) k (ap is_unread (set_.stays k h) ∙ h) ∙ set_.stays k h;
    }
after-marks shape xs s Unreadable was = set-marks xs s Failed was refl
after-marks shape xs s Altered was = set-marks xs s Failed was refl

pub after-less : (shape : Option Shape) (xs : List State) (s : ℕ) (a : Asked) → is_unread (state_of xs s) ≡ true → unreads (states_after shape xs s a) + 1 ≤ unreads xs
after-less shape xs s a was =
    let m = after-marks shape xs s a was in
    unreads-less xs (states_after shape xs s a) s m.long m.fewer was m.gone
