-- The answer to the words, by the first of them.
use Rattle.std.proofs.Common.{◌≡◌, ℕ, [], ◌∷◌, ◌≤◌, Bool, true, false, cond, List, length, ap, refl, arith, Some, None, Option, Err}
use Rattle.std.specs.Prelude.{nat_lt, ◌==◌}
use Rattle.std.proofs.lemmas.Bool.Decides.{nat_tests}
use Rattle.rs01_words.specs.declared.fault.WordFault.TheVariants.{NoCommand, OutOfRange}
use Rattle.rs01_words.specs.declared.fault.WordRefused.{WordRefused}
use Rattle.rs01_words.specs.declared.table.Verb.{Verb}
use Rattle.rs01_words.specs.declared.table.Verb.TheVariants.{Demo}
use Rattle.rs01_words.specs.Grammar.{verb_of, made_sectors, lost_sectors}
use Rattle.rs01_words.specs.Line.{word_at}
use Rattle.rs01_words.specs.Refusal.{refused, plain_at, plain_number, too_many_lost}
use Rattle.rs01_words.specs.Command.{answer_by, words_of}

pub words_of-none : (words : List (List ℕ)) (n : ℕ) → n ≡ length words → (n == 0) ≡ true → Err (refused NoCommand 0) ≡ words_of words
unfolding words_of
words_of-none [] n long none = refl
words_of-none (word ∷ rest) n long none =
    let zero : n ≡ 0 = grind (arith, nat_tests) in
    absurd (omega arith)

pub words_of-some : (words : List (List ℕ)) (n : ℕ) (verb : Option Verb) → n ≡ length words → (n == 0) ≡ false → verb ≡ verb_of (word_at words 0) → answer_by verb words ≡ words_of words
unfolding words_of
words_of-some [] n verb long some is =
    let test : (n == 0) ≡ true = ap (λ n. n == 0) long in
    cc
words_of-some (word ∷ rest) n verb long some is = ap (λ verb. answer_by verb (word ∷ rest)) is

pub enough_sectors : (words : List (List ℕ)) → too_many_lost Demo words ≡ None → plain_number Demo words 3 lost_sectors ≤ plain_number Demo words 1 made_sectors
unfolding too_many_lost
enough_sectors words none =
    let test = decided (nat_lt (plain_number Demo words 1 made_sectors) (plain_number Demo words 3 lost_sectors)) (refused OutOfRange (plain_at Demo words 3)) none in
    grind (arith, nat_tests)
  where
    decided : (b : Bool) (r : WordRefused) → cond b (Some r) None ≡ None → b ≡ false
    decided true r e = cc
    decided false r e = refl
