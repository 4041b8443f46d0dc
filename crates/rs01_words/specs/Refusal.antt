-- What is wrong with the words of a command.
use Rattle.std.specs.Prelude.{◌≡◌, ◌≤◌, ℕ, ◌+◌, List, Bool, true, false, not, ◌&&◌, ◌==◌, nat_le, nat_lt, Option, Some, None, is_some, option_map, unwrap_or, length, if◌then◌else◌}
use Rattle.std.specs.List.{find, slice_get}
use Rattle.std.specs.Option.{option_and_then, option_or}
use Rattle.std.specs.Result.{result_err}
use Rattle.std.specs.Str.{bytes_eq}
use Rattle.rs01_words.specs.declared.fault.WordFault.{WordFault}
use Rattle.rs01_words.specs.declared.fault.WordFault.TheVariants.{UnknownOption, Repeated, NoValue, OutOfRange, Missing, SameName}
use Rattle.rs01_words.specs.declared.fault.WordRefused.{WordRefused}
use Rattle.rs01_words.specs.declared.refusal.Pass.{Pass}
use Rattle.rs01_words.specs.declared.refusal.Pass.TheVariants.{Words, Names}
use Rattle.rs01_words.specs.declared.table.Kind.{Kind}
use Rattle.rs01_words.specs.declared.table.Kind.TheVariants.{Name, Drive}
use Rattle.rs01_words.specs.declared.table.OptionWord.{OptionWord}
use Rattle.rs01_words.specs.declared.table.Verb.{Verb}
use Rattle.rs01_words.specs.declared.table.Verb.TheVariants.{Demo}
use Rattle.rs01_words.specs.Grammar.{row_of, option_of, needed_of, made_sectors, lost_sectors}
use Rattle.rs01_words.specs.Value.{value_of, kind_low, number_or}
use Rattle.rs01_words.specs.Line.{word_at, is_option, is_value, kind_at, places_below, plain_places, given_places}

-- the fault of an option: which it is, how often it was given before, and whether it is the last word
abbrev pub option_fault : Option OptionWord → ℕ → Bool → Option WordFault
option_fault None given last = Some UnknownOption
option_fault (Some option) given last =
    if nat_le (row_of option).most given then Some Repeated
    else (if is_some (row_of option).value && last then Some NoValue else None)

abbrev pub option_fault_at : Verb → List (List ℕ) → ℕ → Option WordFault
option_fault_at verb words i =
    option_fault (option_of verb (word_at words i)) (length (given_places verb words (word_at words i) i)) (i + 1 == length words)

-- the fault of a word that is no option
abbrev pub value_fault : Option Kind → List ℕ → Option WordFault
value_fault None word = Some UnknownOption
value_fault (Some kind) word = result_err (value_of kind word)

-- the fault of the word at a place
unfoldable pub fault_at : Verb → List (List ℕ) → ℕ → Option WordFault
fault_at verb words i =
    if not (is_value verb words i) && is_option (word_at words i) then option_fault_at verb words i
    else value_fault (kind_at verb words i) (word_at words i)

-- whether names that stand for this may not be equal: two drives may
abbrev pub must_differ : Option Kind → Option Kind → Bool
must_differ (Some Name) (Some Name) = true
must_differ (Some Name) (Some Drive) = true
must_differ (Some Drive) (Some Name) = true
must_differ a b = false

-- whether two places have equal names that must differ
unfoldable pub clash : Verb → List (List ℕ) → ℕ → ℕ → Bool
clash verb words i j =
    must_differ (kind_at verb words i) (kind_at verb words j) && bytes_eq (word_at words i) (word_at words j)

-- whether the name at a place equals an earlier one that it must differ from
unfoldable pub repeats_name : Verb → List (List ℕ) → ℕ → Bool
repeats_name verb words i = is_some (find (clash verb words i) (places_below i))

-- the words are gone through twice: each word by itself, then the names beside the earlier ones
abbrev pub fault_in : Pass → Verb → List (List ℕ) → ℕ → Option WordFault
fault_in Words verb words i = fault_at verb words i
fault_in Names verb words i = if repeats_name verb words i then Some SameName else None

-- a fault with its place
abbrev pub refused : WordFault → ℕ → WordRefused
refused fault i = record { fault = fault; place = i }

-- whether the word at a place has a fault
unfoldable pub has_fault : Pass → Verb → List (List ℕ) → ℕ → Bool
has_fault pass verb words i = is_some (fault_in pass verb words i)

-- the first fault from left to right
unfoldable pub first_fault : Pass → Verb → List (List ℕ) → Option WordRefused
first_fault pass verb words =
    option_and_then (λ i. option_map (λ fault. refused fault i) (fault_in pass verb words i))
    (find (has_fault pass verb words) (places_below (length words)))

-- a plain word that the command needs isn't there
unfoldable pub missing_word : Verb → List (List ℕ) → Option WordRefused
missing_word verb words =
    if nat_lt (length (plain_places verb words (length words))) (needed_of verb) then Some (refused Missing (length words)) else None

-- the place of a plain word, by its number among the plain words; 0 where there is none
abbrev pub plain_at : Verb → List (List ℕ) → ℕ → ℕ
plain_at verb words n = unwrap_or (slice_get (plain_places verb words (length words)) n) 0

-- the number that a plain word stands for, by its number among the plain words; the least of its range
-- where it stands for none
unfoldable pub plain_number : Verb → List (List ℕ) → ℕ → Kind → ℕ
plain_number verb words n kind = number_or kind (kind_low kind) (word_at words (plain_at verb words n))

-- `demo` is to lose more sectors than it makes
unfoldable pub too_many_lost : Verb → List (List ℕ) → Option WordRefused
too_many_lost Demo words =
    if nat_lt (plain_number Demo words 1 made_sectors) (plain_number Demo words 3 lost_sectors)
    then Some (refused OutOfRange (plain_at Demo words 3)) else None
too_many_lost verb words = None

-- what is wrong with the words of a command: the first fault from left to right, then a missing word,
-- then the comparison of `demo`, then equal names
abbrev pub refusal_of : Verb → List (List ℕ) → Option WordRefused
refusal_of verb words =
    option_or (first_fault Words verb words)
    (option_or (missing_word verb words) (option_or (too_many_lost verb words) (first_fault Names verb words)))

-- no word has a fault, and no plain word is missing
abbrev pub IsFaultless : Pass → Verb → List (List ℕ) → Type 0
IsFaultless pass verb words = find (has_fault pass verb words) (places_below (length words)) ≡ None

abbrev pub IsComplete : Verb → List (List ℕ) → Type 0
IsComplete verb words = needed_of verb ≤ length (plain_places verb words (length words))

-- what is known of words with nothing wrong
pub record IsClear (verb : Verb) (words : List (List ℕ)) : Type 0 where
  pub faultless : IsFaultless Words verb words
  pub complete : IsComplete verb words
  pub fits : too_many_lost verb words ≡ None
  pub distinct : IsFaultless Names verb words
