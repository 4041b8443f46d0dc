-- The drives of words with nothing wrong: not too many, and each has its name.
use Rattle.std.proofs.Common.{◌≡◌, ◌⊎◌, inl, inr, ℕ, zero, suc, [], ◌∷◌, ◌++◌, ◌+◌, ◌-◌, ◌<◌, ◌≤◌, Bool, true, false, not, ◌&&◌, cond, List, length, sym, ◌∙◌, ap, refl, arith, Some, None, Option}
use Rattle.std.specs.Prelude.{is_some, nat_le, ◌==◌}
use Rattle.std.specs.List.{find, range_with_len}
use Rattle.std.specs.Option.{option_or}
use Rattle.std.specs.Str.{bytes_eq}
use Rattle.std.proofs.lemmas.Bool.Decides.{nat_tests}
use Rattle.std.proofs.lemmas.Slice.Eq.{bytes_eq-Decides}
use Rattle.std.proofs.lemmas.List.Folds.{find-append}
use Rattle.rs01_words.specs.declared.table.Verb.{Verb}
use Rattle.rs01_words.specs.declared.table.Verb.TheVariants.{Create, Fix, Verify, Scan, Read, Demo}
use Rattle.rs01_words.specs.declared.table.OptionWord.{OptionWord}
use Rattle.rs01_words.specs.declared.table.OptionWord.TheVariants.{Drive}
use Rattle.rs01_words.specs.declared.refusal.Pass.TheVariants.{Words}
use Rattle.rs01_words.specs.declared.fault.WordFault.{WordFault}
use Rattle.rs01_words.specs.declared.fault.WordFault.TheVariants.{Repeated, NoValue}
use Rattle.rs01_words.specs.Grammar.{row_of, option_of}
use Rattle.rs01_words.specs.Line.{word_at, is_option, is_value, is_given, places_below, given_places, kind_at}
use Rattle.rs01_words.specs.Refusal.{option_fault, value_fault, fault_at, has_fault}
use Rattle.rs01_words.specs.Command.{AreWithin}
use Rattle.rs01_words.proofs.PlaceLists.{places_below-parts}

neither : {X : Type 0} (a b : Option X) → option_or a b ≡ None → (a ≡ None) × (b ≡ None)
neither None b e = (refl, e)
neither (Some x) b e = cc

-- where no place passes a test, this one doesn't
pub find_none_at : (test : ℕ → Bool) (i n : ℕ) → 0 < i → i < n → find test (places_below n) ≡ None → test i ≡ false
find_none_at test i n pos less none =
    let rest = range_with_len (i + 1) (n - 1 - i) in
    let parts : find test (places_below n) ≡ option_or (option_or (find test (places_below i)) (find test (i ∷ []))) (find test rest) =
    ap (find test) (places_below-parts i n pos less) ∙ find-append test (places_below i ++ i ∷ []) rest ∙ ap (λ o. option_or o (find test rest)) (find-append test (places_below i) (i ∷ [])) in
    let here : find test (i ∷ []) ≡ None = (neither (find test (places_below i)) (find test (i ∷ [])) (neither (option_or (find test (places_below i)) (find test (i ∷ []))) (find test rest) (sym parts ∙ none)).0).1 in
    passes_not (test i) here
  where
    passes_not : (b : Bool) → cond b (Some i) None ≡ None → b ≡ false
    passes_not true e = cc
    passes_not false e = refl

-- the rule of `--drive`, where a command has it
drive_rule : (verb : Verb) → (option_of verb (row_of Drive).text ≡ Some Drive) ⊎ (option_of verb (row_of Drive).text ≡ None)
unfolding option_of
drive_rule Create = inr refl
drive_rule Fix = inr refl
drive_rule Verify = inr refl
drive_rule Scan = inl refl
drive_rule Read = inl refl
drive_rule Demo = inr refl

drive_fault : (rule : Option OptionWord) (given : ℕ) (last : Bool) → (rule ≡ Some Drive) ⊎ (rule ≡ None) → None ≡ option_fault rule given last → (given ≤ 15) × (last ≡ false)
drive_fault rule given last (inl is) none =
    let e : None ≡ option_fault (Some Drive) given last = rw is at none in
    let d = decided (nat_le 16 given) last e in
    let again : nat_le 16 given ≡ false = d.0 in
    (grind (arith, nat_tests), d.1)
  where
    decided : (again last : Bool) → None ≡ cond again (Some Repeated) (cond (true && last) (Some NoValue) None) → (again ≡ false) × (last ≡ false)
    decided true last e = cc
    decided false true e = cc
    decided false false e = (refl, refl)
drive_fault rule given last (inr is) none =
    let e : None ≡ option_fault None given last = rw is at none in
    cc

pub no_fault : (verb : Verb) (words : List (List ℕ)) (i : ℕ) → has_fault Words verb words i ≡ false → None ≡ fault_at verb words i
unfolding has_fault
no_fault verb words i clear = none (fault_at verb words i) clear
  where
    none : (fault : Option WordFault) → is_some fault ≡ false → None ≡ fault
    none None e = refl
    none (Some fault) e = cc

-- a drive that is given where nothing is wrong
pub drive_at : (verb : Verb) (words : List (List ℕ)) (i : ℕ) → None ≡ fault_at verb words i → is_given verb words (row_of Drive).text i ≡ true → (length (given_places verb words (row_of Drive).text i) ≤ 15) × ((i + 1 == length words) ≡ false)
unfolding fault_at
drive_at verb words i none given =
    let parts = both (is_value verb words i) (bytes_eq (word_at words i) (row_of Drive).text) given in
    let word : word_at words i ≡ (row_of Drive).text = (bytes_eq-Decides (word_at words i) (row_of Drive).text).0 parts.1 in
    let last = i + 1 == length words in
    let as_option : List ℕ → Option WordFault = λ w. option_fault (option_of verb w) (length (given_places verb words w i)) last in
    let as_value = value_fault (kind_at verb words i) (word_at words i) in
    let test : (not (is_value verb words i) && is_option (word_at words i)) ≡ true =
    ap (λ b. not b && is_option (word_at words i)) parts.0 ∙ ap is_option word in
    drive_fault (option_of verb (row_of Drive).text) (length (given_places verb words (row_of Drive).text i)) last (drive_rule verb)
    (none ∙ ap (λ b. cond b (as_option (word_at words i)) as_value) test ∙ ap as_option word)
  where
    both : (value same : Bool) → (not value && same) ≡ true → (value ≡ false) × (same ≡ true)
    both true same e = cc
    both false same e = (refl, e)

pub AreWithin-nil : (n : ℕ) (xs : List ℕ) → xs ≡ [] → AreWithin n xs
AreWithin-nil n xs none = rw none (λ i. tt)

pub AreWithin-push : (n : ℕ) (xs : List ℕ) (x : ℕ) → AreWithin n xs → x < n → AreWithin n (xs ++ x ∷ [])
AreWithin-push n [] x within less zero = less
AreWithin-push n [] x within less (suc i) = tt
AreWithin-push n (y ∷ ys) x within less zero = within zero
AreWithin-push n (y ∷ ys) x within less (suc i) = AreWithin-push n ys x (λ i. within (suc i)) less i
