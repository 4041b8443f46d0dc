-- A whole reading keeps its bounds.
use Rattle.std.proofs.Common.{inl, inr, ◌≡◌, ℕ, zero, suc, ◌<◌, ⊎_elim, refl, sym, ap, ◌∙◌}
use Rattle.std.specs.Prelude.{◌⊎◌, IsSome, None, false, not, true}
use Rattle.std.specs.Fn.{iterate}
use Rattle.std.proofs.lemmas.Bool.{cases_Bool, false≢true}
use Rattle.rs01_turns.specs.Layers.{lies_within}
use Rattle.rs01_turns.specs.Turns.{Reading, Terms, next_of, rest, step}
use Rattle.rs01_turns.proofs.Layering.{beyond-are-asked, settled-are-left, start-is-sparing, steps-sparing, unasked-lie-within}
use Rattle.rs01_turns.proofs.Times.{asks-few}
use Rattle.rs01_turns.proofs.Turning.{cases-next, none-still, rest-next, some-steps}
use Rattle.rs01_adaptive.specs.Bounds.{BoundsAreKept}
use Rattle.rs01_adaptive.specs.Whole.{Whole, asking_in, end_in, good_flags, is_lacking, known_in, start_in, terms_in}
use Rattle.rs01_adaptive.proofs.BlockLemmas.{start_flag}

-- steps keep the rest

step-rest : (terms : Terms) (now : Reading) → rest terms (step terms now) ≡ rest terms now
step-rest terms now = ⊎_elim
    (λ h. ap (rest terms) (none-still terms now h))
    (λ h. ap (rest terms) (some-steps terms now h.0 h.1) ∙ rest-next terms now h.0 h.1)
    (cases-next (next_of now))

steps-rest : (terms : Terms) (n : ℕ) (now : Reading) → rest terms (iterate (step terms) n now) ≡ rest terms now
steps-rest terms zero now = refl
steps-rest terms (suc n) now = steps-rest terms n (step terms now) ∙ step-rest terms now

unasked-within : (w : Whole) (s : ℕ) → s < (known_in w).sectors → is_lacking w s ≡ true → asking_in w s ≡ None → lies_within w.shape (end_in w).states s ≡ true
unfolding asking_in end_in
unasked-within w s below lacks none = unasked-lie-within (terms_in w) (good_flags w) w.views s (start_flag w s below ∙ ap not lacks) none

beyond-asked : (w : Whole) (s : ℕ) → s < (known_in w).sectors → lies_within w.shape (end_in w).states s ≡ false → (is_lacking w s ≡ false) ⊎ IsSome (asking_in w s)
unfolding asking_in end_in
beyond-asked w s below beyond = ⊎_elim
    (λ good. ⊎_elim
    (λ lacks. absurd (false≢true (sym (start_flag w s below ∙ ap not lacks) ∙ good)))
    (λ has. inl has)
    (cases_Bool (is_lacking w s)))
    (λ asked. inr asked)
    (beyond-are-asked (terms_in w) (good_flags w) w.views s beyond)

pub bounds-are-kept : BoundsAreKept
unfolding end_in
bounds-are-kept w = record {
  few = λ k one other was is. asks-few (terms_in w) (start_in w) k one other was is;
  unasked = λ s below lacks none. unasked-within w s below lacks none;
  beyond = λ s below beyond. beyond-asked w s below beyond;
  settled = λ n s within.
      settled-are-left (terms_in w) (iterate (step (terms_in w)) n (start_in w)) s
      (steps-sparing (terms_in w) n (start_in w) (start-is-sparing w.shape (good_flags w))) within;
  end_is = λ n. steps-rest (terms_in w) n (start_in w);
}
