-- What makes each refusal, and what rules it out.
use Rattle.std.proofs.Common.{◌≡◌, ℕ, zero, suc, [], ◌∷◌, ◌-◌, ◌<◌, ◌≤◌, Bool, true, false, ◌&&◌, cond, List, length, sym, ◌∙◌, ap, refl, arith, Some, None, Option}
use Rattle.std.specs.Prelude.{is_some, nat_le, nat_lt, option_map}
use Rattle.std.specs.List.{find, slice_get}
use Rattle.std.specs.Option.{option_and_then}
use Rattle.std.proofs.lemmas.Bool.Decides.{nat_tests}
use Rattle.std.specs.Str.{bytes_eq}
use Rattle.rs01_words.specs.declared.table.Verb.{Verb}
use Rattle.rs01_words.specs.declared.table.Kind.{Kind}
use Rattle.rs01_words.specs.declared.fault.WordFault.{WordFault}
use Rattle.rs01_words.specs.declared.fault.WordFault.TheVariants.{Missing}
use Rattle.rs01_words.specs.declared.refusal.Pass.{Pass}
use Rattle.rs01_words.specs.Grammar.{needed_of}
use Rattle.rs01_words.specs.Line.{word_at, kind_at, places_below, plain_places}
use Rattle.rs01_words.specs.Refusal.{fault_in, has_fault, refused, first_fault, missing_word, must_differ, clash, repeats_name}
use Rattle.rs01_words.proofs.PlaceLists.{find_at, find_end}

-- the first fault
pub first_fault-Some : (pass : Pass) (verb : Verb) (words : List (List ℕ)) (i : ℕ) (fault : WordFault) → 0 < i → i < length words → Some fault ≡ fault_in pass verb words i → find (has_fault pass verb words) (places_below i) ≡ None → Some (refused fault i) ≡ first_fault pass verb words
unfolding first_fault has_fault
first_fault-Some pass verb words i fault pos less is none =
    let found = find_at (has_fault pass verb words) i (length words) pos less (sym (ap is_some is)) none in
    ap (option_map (λ fault. refused fault i)) is ∙ sym (ap (option_and_then (λ i. option_map (λ fault. refused fault i) (fault_in pass verb words i))) found)

pub has_fault-no : (pass : Pass) (verb : Verb) (words : List (List ℕ)) (i : ℕ) → None ≡ fault_in pass verb words i → has_fault pass verb words i ≡ false
unfolding has_fault
has_fault-no pass verb words i none = sym (ap is_some none)

-- no fault
pub first_fault-None : (pass : Pass) (verb : Verb) (words : List (List ℕ)) (place : ℕ) → length words ≤ place → (1 ≤ length words → place ≤ length words) → find (has_fault pass verb words) (places_below place) ≡ None → None ≡ first_fault pass verb words
unfolding first_fault
first_fault-None pass verb words place past upto none =
    sym (ap (option_and_then (λ i. option_map (λ fault. refused fault i) (fault_in pass verb words i))) (find_end (has_fault pass verb words) place (length words) past upto none))

-- a name that equals an earlier one
pub repeats_name-true : (verb : Verb) (words : List (List ℕ)) (i j : ℕ) → 0 < j → j < i → clash verb words i j ≡ true → find (clash verb words i) (places_below j) ≡ None → true ≡ repeats_name verb words i
unfolding repeats_name
repeats_name-true verb words i j pos less clashes none =
    sym (ap is_some (find_at (clash verb words i) j i pos less clashes none))

-- a name that equals no earlier one
pub repeats_name-false : (verb : Verb) (words : List (List ℕ)) (i place : ℕ) → i ≤ place → (1 ≤ i → place ≤ i) → find (clash verb words i) (places_below place) ≡ None → false ≡ repeats_name verb words i
unfolding repeats_name
repeats_name-false verb words i place past upto none =
    sym (ap is_some (find_end (clash verb words i) place i past upto none))

none_past : {X : Type 0} (xs : List X) (k : ℕ) → is_some (slice_get xs k) ≡ false → length xs ≤ k
none_past [] k none = omega arith
none_past (x ∷ xs) zero none = cc
none_past (x ∷ xs) (suc k) none = omega (arith, none_past xs k none)

some_within : {X : Type 0} (xs : List X) (k : ℕ) → is_some (slice_get xs k) ≡ true → k < length xs
some_within [] k some = cc
some_within (x ∷ xs) zero some = omega arith
some_within (x ∷ xs) (suc k) some = omega (arith, some_within xs k some)

-- so many are there
pub enough : {X : Type 0} (xs : List X) (n : ℕ) → 0 < n → is_some (slice_get xs (n - 1)) ≡ nat_le n (length xs)
enough xs n pos = go (is_some (slice_get xs (n - 1))) refl
  where
    go : (b : Bool) → is_some (slice_get xs (n - 1)) ≡ b → b ≡ nat_le n (length xs)
    go true e =
        let within = some_within xs (n - 1) e in
        grind (arith, nat_tests)
    go false e =
        let past = none_past xs (n - 1) e in
        grind (arith, nat_tests)

-- a plain word is missing
pub missing_word-Some : (verb : Verb) (words : List (List ℕ)) (needed n : ℕ) (place : Option ℕ) → needed ≡ needed_of verb → n ≡ length words → 0 < needed → place ≡ slice_get (plain_places verb words n) (needed - 1) → is_some place ≡ false → Some (refused Missing n) ≡ missing_word verb words
unfolding missing_word
missing_word-Some verb words needed n place is long pos there none =
    let past = none_past (plain_places verb words n) (needed - 1) (sym (ap is_some there) ∙ none) in
    let too_few : length (plain_places verb words (length words)) < needed_of verb = rw (← long) (omega arith) in
    let test : nat_lt (length (plain_places verb words (length words))) (needed_of verb) ≡ true = grind (arith, nat_tests) in
    ap (λ n. Some (refused Missing n)) long ∙ sym (ap (λ b. cond b (Some (refused Missing (length words))) None) test)

-- no plain word is missing
pub missing_word-enough : (verb : Verb) (words : List (List ℕ)) (needed n : ℕ) (place : Option ℕ) → needed ≡ needed_of verb → n ≡ length words → place ≡ slice_get (plain_places verb words n) (needed - 1) → is_some place ≡ true → needed_of verb ≤ length (plain_places verb words (length words))
missing_word-enough verb words needed n place is long there some =
    let within = some_within (plain_places verb words n) (needed - 1) (sym (ap is_some there) ∙ some) in
    rw (← long) (omega arith)

pub missing_word-None : (verb : Verb) (words : List (List ℕ)) (needed n : ℕ) (place : Option ℕ) → needed ≡ needed_of verb → n ≡ length words → place ≡ slice_get (plain_places verb words n) (needed - 1) → is_some place ≡ true → None ≡ missing_word verb words
unfolding missing_word
missing_word-None verb words needed n place is long there some =
    let enough = missing_word-enough verb words needed n place is long there some in
    let test : nat_lt (length (plain_places verb words (length words))) (needed_of verb) ≡ false = grind (arith, nat_tests) in
    sym (ap (λ b. cond b (Some (refused Missing (length words))) None) test)

-- no plain word is needed
pub missing_word-zero : (verb : Verb) (words : List (List ℕ)) (needed : ℕ) → needed ≡ needed_of verb → needed ≤ 0 → None ≡ missing_word verb words
unfolding missing_word
missing_word-zero verb words needed is nothing =
    let test : nat_lt (length (plain_places verb words (length words))) (needed_of verb) ≡ false = grind (arith, nat_tests) in
    sym (ap (λ b. cond b (Some (refused Missing (length words))) None) test)

-- `clash` by the two words and what they stand for
pub clash-is : (verb : Verb) (words : List (List ℕ)) (i j : ℕ) (kind other : Option Kind) (word earlier : List ℕ) → kind ≡ kind_at verb words i → other ≡ kind_at verb words j → word ≡ word_at words i → earlier ≡ word_at words j → (must_differ kind other && bytes_eq word earlier) ≡ clash verb words i j
unfolding clash
clash-is verb words i j kind other word earlier one two same before = rw one (rw two (rw same (rw before refl)))
