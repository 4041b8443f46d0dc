-- What stands behind a text, found from the left.
use Rattle.std.proofs.Common.{◌≡◌, ◌∙◌, ℕ, ◌+◌, ◌-◌, ◌<◌, ◌≤◌, true, false, cond, List, [], ◌∷◌, Some, None, take, drop, length, take_all, ap, refl, arith}
use Rattle.std.proofs.lemmas.List.{at_drop_all, drop-drop, length-drop}
use Rattle.rs01_help.specs.Reading.{after, begins}

-- a slice from a place to the end
pub tail : (bytes : List ℕ) (at : ℕ) → take (length bytes - at) (drop at bytes) ≡ drop at bytes
tail bytes at = take_all (length bytes - at) (drop at bytes) (omega (arith, length-drop at bytes))

-- by whether it stands first
after_if : (text bytes : List ℕ) → 0 < length bytes
    → after text bytes ≡ cond (begins bytes text) (Some (drop (length text) bytes)) (after text (drop 1 bytes))
unfolding after
after_if text [] some = absurd (let none : 0 < 0 = some in omega arith)
after_if text (b ∷ bytes) some = refl

pub found_here : (text bytes : List ℕ) (at : ℕ) → at < length bytes → begins (drop at bytes) text ≡ true
    → after text (drop at bytes) ≡ Some (drop (at + length text) bytes)
found_here text bytes at inside is =
    after_if text (drop at bytes) (omega (arith, length-drop at bytes))
    ∙ ap (λ here. cond here (Some (drop (length text) (drop at bytes))) (after text (drop 1 (drop at bytes)))) is
    ∙ ap Some (drop-drop (length text) at bytes)

pub found_later : (text bytes : List ℕ) (at : ℕ) → at < length bytes → begins (drop at bytes) text ≡ false
    → after text (drop at bytes) ≡ after text (drop (at + 1) bytes)
found_later text bytes at inside is =
    after_if text (drop at bytes) (omega (arith, length-drop at bytes))
    ∙ ap (λ here. cond here (Some (drop (length text) (drop at bytes))) (after text (drop 1 (drop at bytes)))) is
    ∙ ap (after text) (drop-drop 1 at bytes)

pub found_nowhere : (text bytes : List ℕ) (at : ℕ) → length bytes ≤ at → after text (drop at bytes) ≡ None
unfolding after
found_nowhere text bytes at past = at_drop_all (after text) bytes at past
