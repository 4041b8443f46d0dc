-- What is known of a place, one place further.
use Rattle.std.proofs.Common.{◌≡◌, ℕ, ◌+◌, ◌<◌, Bool, true, false, not, ◌&&◌, List, length, sym, ◌∙◌, ap, refl, arith, add-one}
use Rattle.std.specs.Prelude.{nat_lt, is_some}
use Rattle.std.proofs.lemmas.Bool.Decides.{nat_tests}
use Rattle.rs01_words.specs.declared.table.Verb.{Verb}
use Rattle.rs01_words.specs.declared.walk.Before.{Before}
use Rattle.rs01_words.specs.Line.{word_at, value_kind, is_value, is_plain, plain_places, IsKnown}
use Rattle.rs01_words.proofs.PlaceLists.{where-one}

after_command : (i : ℕ) → 0 < i → nat_lt 0 i ≡ true
after_command i pos = grind (arith, nat_tests)

-- whether the next word is a value
is_value-more : (verb : Verb) (words : List (List ℕ)) (i : ℕ) → 0 < i → is_value verb words (i + 1) ≡ (not (is_value verb words i) && is_some (value_kind verb (word_at words i)))
unfolding is_value
is_value-more verb words i pos =
    rw add-one (ap (λ b. b && (not (is_value verb words i) && is_some (value_kind verb (word_at words i)))) (after_command i pos))

-- the test of the code, by what is known of the place
pub followed : (verb : Verb) (words : List (List ℕ)) (i : ℕ) (before : Before) (takes : Bool) → IsKnown verb words i before → takes ≡ is_some (value_kind verb (word_at words i)) → (not before.is_value && takes) ≡ is_value verb words (i + 1)
followed verb words i before takes known is =
    ap (λ b. not b.is_value && takes) known.1 ∙ ap (λ t. not (is_value verb words i) && t) is ∙ sym (is_value-more verb words i known.0)

is_value-one : (verb : Verb) (words : List (List ℕ)) → is_value verb words 1 ≡ false
unfolding is_value
is_value-one verb words = refl

same_before : (a b : Bool) (m n : ℕ) → a ≡ b → m ≡ n → ◌≡◌ {A = Before} (record { is_value = a; plain = m }) (record { is_value = b; plain = n })
same_before a b m n same_value same_plain = cc

-- what is known of the first place after the command
pub known_first : (verb : Verb) (words : List (List ℕ)) (before : Before) → before ≡ record { is_value = false; plain = 0 } → IsKnown verb words 1 before
known_first verb words before is =
    let v = is_value-one verb words in
    let p = ap length (where-one (is_plain verb words)) in
    (omega arith, cc)

-- what is known of the next place
pub known_next : (verb : Verb) (words : List (List ℕ)) (i plain : ℕ) (value : Bool) → value ≡ is_value verb words (i + 1) → plain ≡ length (plain_places verb words (i + 1)) → IsKnown verb words (i + 1) (record { is_value = value; plain = plain })
known_next verb words i plain value is counted = (omega arith, same_before _ _ _ _ is counted)
