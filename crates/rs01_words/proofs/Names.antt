-- Where nothing is wrong with the words, the image and its error correction file have different names.
use Rattle.std.proofs.Common.{◌≡◌, ◌≢◌, ◌⊎◌, inl, inr, ℕ, zero, suc, [], ◌∷◌, ◌++◌, ◌+◌, ◌-◌, ◌<◌, ◌≤◌, Bool, true, false, not, ◌&&◌, cond, List, length, sym, ◌∙◌, ap, refl, arith, Some, None, Option, get_or, map, take}
use Rattle.std.specs.Prelude.{is_some, IfSome, nat_lt}
use Rattle.std.specs.List.{find, slice_get}
use Rattle.std.specs.Str.{bytes_eq}
use Rattle.std.proofs.lemmas.Option.{slice_get_within, slice_get-get_or, get_or_from_slice_get}
use Rattle.std.proofs.lemmas.List.{map_more}
use Rattle.std.proofs.lemmas.Bool.{ltb-true, ltb-false}
use Rattle.std.proofs.lemmas.Slice.Eq.{bytes_eq-Decides}
use Rattle.rs01_words.specs.declared.table.Kind.TheVariants.{Name}
use Rattle.rs01_words.specs.declared.table.Verb.{Verb}
use Rattle.rs01_words.specs.declared.table.Verb.TheVariants.{Create, Fix, Verify, Scan, Read, Demo}
use Rattle.rs01_words.specs.Grammar.{plain_kind, needed_of}
use Rattle.rs01_words.specs.declared.refusal.Pass.TheVariants as pass
use Rattle.rs01_words.specs.declared.fault.WordFault.TheVariants.{SameName}
use Rattle.rs01_words.specs.Line.{word_at, is_option, is_value, is_plain, places_below, places_where, plain_places, kind_at, value_kind}
use Rattle.rs01_words.specs.Refusal.{must_differ, clash, repeats_name, has_fault, plain_at, IsClear}
use Rattle.rs01_words.specs.Command.{plain_if_any, command_of, NamesDiffer}
use Rattle.rs01_words.proofs.PlaceLists.{where-more, where_at}
use Rattle.rs01_words.proofs.DriveFaults.{find_none_at}

pub record IsFound (test : ℕ → Bool) (n k i : ℕ) : Type 0 where
  pub pos : 0 < i
  pub less : i < n
  pub pass : test i ≡ true
  pub number : length (places_where test i) ≡ k

last_or_before : (xs : List ℕ) (b : Bool) (n k i : ℕ) → slice_get (xs ++ cond b (n ∷ []) []) k ≡ Some i → (slice_get xs k ≡ Some i) ⊎ ((b ≡ true) × (k ≡ length xs) × (i ≡ n))
last_or_before [] true n zero i is = inr (refl, refl, cc)
last_or_before [] true n (suc k) i is = cc
last_or_before [] false n k i is = cc
last_or_before (x ∷ xs) b n zero i is = inl is
last_or_before (x ∷ xs) b n (suc k) i is =
    elim (last_or_before xs b n k i is) [ inl before ↦ inl before | inr last ↦ inr (last.0, omega (arith, last.1), last.2) ]

-- the place with a number among those that pass a test
found : (test : ℕ → Bool) (n k i : ℕ) → slice_get (places_where test n) k ≡ Some i → IsFound test n k i
unfolding places_where
found test zero k i is = cc
found test (suc zero) k i is = cc
found test (suc (suc m)) k i is =
    let pos : 0 < suc m = omega arith in
    let e : suc m + 1 ≡ suc (suc m) = omega arith in
    let last : slice_get (places_where test (suc m) ++ cond (test (suc m)) (suc m ∷ []) []) k ≡ Some i =
    ap (λ xs. slice_get xs k) (sym (where-more test (suc m) pos)) ∙ ap (λ n. slice_get (places_where test n) k) e ∙ is in
    elim (last_or_before (places_where test (suc m)) (test (suc m)) (suc m) k i last) [
      | inl before ↦
          let f = found test (suc m) k i before in
          record { pos = f.pos; less = omega (arith, f.less); pass = f.pass; number = f.number }
      | inr here ↦ record {
        pos = omega (arith, here.2);
        less = omega (arith, here.2);
        pass = ap test here.2 ∙ here.0;
        number = ap (λ n. length (places_where test n)) here.2 ∙ sym here.1;
      }
    ]

-- the first that passes a test stands before the second
in_order : (test : ℕ → Bool) (n i j : ℕ) → IsFound test n 0 i → IsFound test n 1 j → i < j
in_order test n i j first second = go (nat_lt i j) refl
  where
    not_after : (b : Bool) → nat_lt j i ≡ b → nat_lt i j ≡ false → i < j
    not_after true after e =
        let there : slice_get (places_where test i) (length (places_where test j)) ≡ Some j = sym (where_at test j i _ second.pos (ltb-true j i after) second.pass refl) in
        let within : length (places_where test j) < length (places_where test i) = slice_get_within _ _ j there in
        absurd (omega (arith, first.number, second.number))
    not_after false after e =
        let same : i ≡ j = omega (arith, ltb-false i j e, ltb-false j i after) in
        let count : length (places_where test i) ≡ length (places_where test j) = ap (λ n. length (places_where test n)) same in
        absurd (omega (arith, first.number, second.number))

    go : (b : Bool) → nat_lt i j ≡ b → i < j
    go true e = ltb-true i j e
    go false e = not_after (nat_lt j i) refl e

neither_of : (value option : Bool) → (not value && not option) ≡ true → (value ≡ false) × (option ≡ false)
neither_of true option e = cc
neither_of false true e = cc
neither_of false false e = (refl, refl)

-- what a plain word stands for
kind_of_plain : (verb : Verb) (words : List (List ℕ)) (i k : ℕ) → is_plain verb words i ≡ true → length (plain_places verb words i) ≡ k → kind_at verb words i ≡ plain_kind verb k
unfolding kind_at
kind_of_plain verb words i k plain number =
    let parts = neither_of (is_value verb words i) (is_option (word_at words i)) plain in
    let kind = plain_kind verb (length (plain_places verb words i)) in
    ap (λ b. cond b (value_kind verb (word_at words (i - 1))) (cond (is_option (word_at words i)) None kind)) parts.0 ∙
    ap (λ b. cond b None kind) parts.1 ∙ ap (plain_kind verb) number

single : (verb : Verb) (words : List (List ℕ)) (i : ℕ) → has_fault pass.Names verb words i ≡ false → repeats_name verb words i ≡ false
unfolding has_fault
single verb words i e = go (repeats_name verb words i) e
  where
    go : (b : Bool) → is_some (cond b (Some SameName) None) ≡ false → b ≡ false
    go true e = cc
    go false e = refl

none_from : {X : Type 0} (o : Option X) → is_some o ≡ false → o ≡ None
none_from None e = refl
none_from (Some x) e = cc

-- the first two plain words of a command are names
abbrev NamesTwo : Verb → Type 0
NamesTwo verb = (plain_kind verb 0 ≡ Some Name) × (plain_kind verb 1 ≡ Some Name)

-- the image and its error correction file
differ : (verb : Verb) (words : List (List ℕ)) → IsClear verb words → NamesTwo verb → (i j : ℕ) → slice_get (plain_places verb words (length words)) 0 ≡ Some i → slice_get (plain_places verb words (length words)) 1 ≡ Some j → word_at words i ≢ word_at words j
unfolding repeats_name clash
differ verb words clear kinds i j first second same =
    let one = found (is_plain verb words) (length words) 0 i first in
    let two = found (is_plain verb words) (length words) 1 j second in
    let kind_one : kind_at verb words i ≡ Some Name = kind_of_plain verb words i 0 one.pass one.number ∙ kinds.0 in
    let kind_two : kind_at verb words j ≡ Some Name = kind_of_plain verb words j 1 two.pass two.number ∙ kinds.1 in
    let unrepeated : repeats_name verb words j ≡ false = single verb words j (find_none_at (has_fault pass.Names verb words) j (length words) two.pos two.less clear.distinct) in
    let no_clash : clash verb words j i ≡ false =
    find_none_at (clash verb words j) i j one.pos (in_order (is_plain verb words) (length words) i j one two) (none_from (find (clash verb words j) (places_below j)) unrepeated) in
    let text = bytes_eq (word_at words j) (word_at words i) in
    let unequal : text ≡ false =
    sym (ap (λ kind. must_differ kind (kind_at verb words i) && text) kind_two ∙ ap (λ kind. must_differ (Some Name) kind && text) kind_one) ∙ no_clash in
    let equal : text ≡ true = (bytes_eq-Decides (word_at words j) (word_at words i)).1 (sym same) in
    cc

both_differ : (verb : Verb) (words : List (List ℕ)) → IsClear verb words → NamesTwo verb → 2 ≤ length (plain_places verb words (length words)) → word_at words (plain_at verb words 0) ≢ word_at words (plain_at verb words 1)
both_differ verb words clear kinds two =
    let places = plain_places verb words (length words) in
    let first : slice_get places 0 ≡ Some (get_or places 0 0) = slice_get-get_or places 0 0 (omega arith) in
    let second : slice_get places 1 ≡ Some (get_or places 1 0) = slice_get-get_or places 1 0 (omega arith) in
    rw (first, second) (differ verb words clear kinds _ _ first second)

-- the names of a command with nothing wrong
pub names_differ : (verb : Verb) (words : List (List ℕ)) → IsClear verb words → NamesDiffer words (command_of verb words)
unfolding plain_kind needed_of
names_differ Create words clear = both_differ Create words clear (refl, refl) clear.complete
names_differ Fix words clear = both_differ Fix words clear (refl, refl) clear.complete
names_differ Verify words clear = both_differ Verify words clear (refl, refl) clear.complete
names_differ Scan words clear = tt
names_differ Read words clear = second (plain_if_any Read words 1) refl
  where
    second : (ecc : Option ℕ) → plain_if_any Read words 1 ≡ ecc → IfSome ecc (λ file. word_at words (plain_at Read words 0) ≢ word_at words file)
    second None is = tt
    second (Some j) is =
        let places = plain_places Read words (length words) in
        let within = slice_get_within places 1 j is in
        let first : slice_get places 0 ≡ Some (get_or places 0 0) = slice_get-get_or places 0 0 (omega arith) in
        rw first (differ Read words clear (refl, refl) _ j first is)
names_differ Demo words clear = tt

-- one name more
pub names-more : (f : ℕ → List ℕ) (places : List ℕ) (i place : ℕ) → slice_get places i ≡ Some place → map f (take (i + 1) places) ≡ map f (take i places) ++ f place ∷ []
names-more f places i place there =
    map_more f places i place (slice_get_within places i place there) ∙ ap (λ p. map f (take i places) ++ f p ∷ []) (get_or_from_slice_get places i place place there)

pub not_past : {X : Type 0} (places : List X) (i : ℕ) → i < length places → slice_get places i ≡ None → ⊥
not_past [] i less none = omega arith
not_past (x ∷ xs) zero less none = cc
not_past (x ∷ xs) (suc i) less none = not_past xs i (omega arith) none
