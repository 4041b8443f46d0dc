-- A number that a word stands for lies in the range of its kind.
use Rattle.std.proofs.Common.{◌≡◌, ◌∙◌, ℕ, ◌≤◌, Bool, true, false, not, ◌&&◌, cond, List, [], ◌∷◌, ap, refl, arith, Some, None, Option, Ok, Err, Result}
use Rattle.std.specs.Prelude.{nat_le, option_map, unwrap_or}
use Rattle.std.specs.List.{find, list_all}
use Rattle.std.specs.Str.{bytes_eq}
use Rattle.std.proofs.lemmas.Bool.Decides.{nat_tests}
use Rattle.rs01_words.specs.declared.fault.WordFault.{WordFault}
use Rattle.rs01_words.specs.declared.fault.WordFault.TheVariants.{BadNumber, OutOfRange}
use Rattle.rs01_words.specs.declared.table.Kind.{Kind}
use Rattle.rs01_words.specs.declared.table.Kind.TheVariants.{Name, Drive, Number, Parity}
use Rattle.rs01_words.specs.declared.table.OptionWord.{OptionWord}
use Rattle.rs01_words.specs.declared.table.OptionWord.TheVariants as options
use Rattle.rs01_words.specs.Grammar.{presets, preset_of, row_of}
use Rattle.rs01_words.specs.Value.{is_decimal, number_of, number_within, value_of, is_sound, option_kind, IsOf}

-- what holds of all elements holds of the one that is found
found_passes : {X : Type 0} (p q : X → Bool) (xs : List X) (x : X) → list_all q xs ≡ true → find p xs ≡ Some x → q x ≡ true
found_passes p q [] x all is = cc
found_passes p q (y ∷ ys) x all is = step (q y) (p y) (list_all q ys) (find p ys) refl all is (found_passes p q ys x)
  where
    step : (here test more : Bool) (rest : Option _) → q y ≡ here → (here && more) ≡ true → cond test (Some y) rest ≡ Some x → (more ≡ true → rest ≡ Some x → q x ≡ true) → q x ≡ true
    step false test more rest e every found go = cc
    step true true more rest e every found go = cc
    step true false more rest e every found go = go every found

both : (a b : Bool) → (a && b) ≡ true → (a ≡ true) × (b ≡ true)
both true true e = (refl, refl)
both true false e = cc
both false b e = cc

between : (low n high : ℕ) → (nat_le low n && nat_le n high) ≡ true → (low ≤ n) × (n ≤ high)
between low n high inside =
    let parts = both (nat_le low n) (nat_le n high) inside in
    let least : nat_le low n ≡ true = parts.0 in
    let most : nat_le n high ≡ true = parts.1 in
    (grind (arith, nat_tests), grind (arith, nat_tests))

decimal_within : (low high : ℕ) (word : List ℕ) (n : ℕ) → number_within low high word ≡ Ok n → (low ≤ n) × (n ≤ high)
decimal_within low high word n is = go (is_decimal word) (nat_le low (number_of word) && nat_le (number_of word) high) refl is
  where
    go : (digits inside : Bool) → (nat_le low (number_of word) && nat_le (number_of word) high) ≡ inside
        → ◌≡◌ {A = Result ℕ WordFault} (cond (not digits) (Err BadNumber) (cond inside (Ok (number_of word)) (Err OutOfRange))) (Ok n) → (low ≤ n) × (n ≤ high)
    go false inside e found = cc
    go true false e found = cc
    go true true e found =
        let same : number_of word ≡ n = cc in
        let range = between low (number_of word) high e in
        (omega (arith, range.0), omega (arith, range.1))

preset_within : (low high : ℕ) (word : List ℕ) (n : ℕ) → is_sound (Parity low high) ≡ true → preset_of word ≡ Some n → (low ≤ n) × (n ≤ high)
preset_within low high word n sound is = go (find (λ row. bytes_eq word row.0) presets) refl is
  where
    go : (row : Option (List ℕ × ℕ)) → find (λ row. bytes_eq word row.0) presets ≡ row → option_map (λ row. row.1) row ≡ Some n → (low ≤ n) × (n ≤ high)
    go None e found = cc
    go (Some row) e found =
        let same : row.1 ≡ n = cc in
        let inside = found_passes (λ row. bytes_eq word row.0) (λ preset. nat_le low preset.1 && nat_le preset.1 high) presets row (both (nat_le low high) _ sound).1 e in
        let range = between low row.1 high inside in
        (omega (arith, range.0), omega (arith, range.1))

-- the number that a word of this kind stands for
pub value_within : (kind : Kind) (word : List ℕ) (n : ℕ) → is_sound kind ≡ true → value_of kind word ≡ Ok n → IsOf kind n
value_within Name word n sound is =
    let none : 0 ≡ n = cc in
    (omega arith, omega arith)
value_within Drive word n sound is =
    let none : 0 ≡ n = cc in
    (omega arith, omega arith)
value_within (Number low high) word n sound is = decimal_within low high word n is
value_within (Parity low high) word n sound is = go (preset_of word) refl is
  where
    go : (preset : Option ℕ) → preset_of word ≡ preset → ◌≡◌ {A = Result ℕ WordFault} (unwrap_or (option_map Ok preset) (number_within low high word)) (Ok n) → (low ≤ n) × (n ≤ high)
    go None e found = decimal_within low high word n found
    go (Some m) e found =
        let same : m ≡ n = cc in
        preset_within low high word n sound (e ∙ ap Some same)

-- the default of an option lies in its range
pub option_sound : (option : OptionWord) → (is_sound (option_kind option) ≡ true) × IsOf (option_kind option) (row_of option).default
option_sound options.Parity = (refl, (omega arith, omega arith))
option_sound options.Workers = (refl, (omega arith, omega arith))
option_sound options.Cut = (refl, (omega arith, omega arith))
option_sound options.Drive = (refl, (omega arith, omega arith))
option_sound options.Adaptive = (refl, (omega arith, omega arith))
option_sound options.Jump = (refl, (omega arith, omega arith))
option_sound options.Tries = (refl, (omega arith, omega arith))
