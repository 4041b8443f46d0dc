-- What each word of a command line is: an option, the value of the option before it, or a plain word.
use Rattle.std.specs.Prelude.{ℕ, zero, suc, ◌≡◌, ◌<◌, ◌-◌, List, [], Bool, false, not, ◌&&◌, ◌==◌, nat_lt, Option, None, is_some, slice_index, length, map, filter, string_bytes, if◌then◌else◌}
use Rattle.std.specs.declared.string.String.{String}
use Rattle.std.specs.List.{slice_index_or, range_with_len}
use Rattle.std.specs.Option.{option_and_then}
use Rattle.std.specs.Str.{bytes_eq}
use Rattle.rs01_words.specs.declared.table.Kind.{Kind}
use Rattle.rs01_words.specs.declared.table.Verb.{Verb}
use Rattle.rs01_words.specs.declared.walk.Before.{Before}
use Rattle.rs01_words.specs.Grammar.{option_of, plain_kind, row_of}

-- the letters of the words
abbrev pub texts : {Z : Type 0} → List (String Z) → List (List ℕ)
texts words = map string_bytes words

-- the word at a place, and no bytes past the last one
abbrev pub word_at : List (List ℕ) → ℕ → List ℕ
word_at words i = slice_index_or words i []

-- whether a word begins with two dashes
abbrev pub is_option : List ℕ → Bool
is_option word = (slice_index word 0 == 45) && (slice_index word 1 == 45)

-- what the value of an option is, where the command has the option and it takes one
abbrev pub value_kind : Verb → List ℕ → Option Kind
value_kind verb word = option_and_then (λ option. (row_of option).value) (option_of verb word)

-- whether the word at a place is the value of the option before it
unfoldable pub is_value : Verb → List (List ℕ) → ℕ → Bool
is_value verb words zero = false
is_value verb words (suc i) =
    nat_lt 0 i && (not (is_value verb words i) && is_some (value_kind verb (word_at words i)))

-- whether a plain word stands at a place
abbrev pub is_plain : Verb → List (List ℕ) → ℕ → Bool
is_plain verb words i = not (is_value verb words i) && not (is_option (word_at words i))

-- whether an option is given at a place
abbrev pub is_given : Verb → List (List ℕ) → List ℕ → ℕ → Bool
is_given verb words option i = not (is_value verb words i) && bytes_eq (word_at words i) option

-- the places of the words after the command, below n
abbrev pub places_below : ℕ → List ℕ
places_below n = range_with_len 1 (n - 1)

-- the places of the words after the command, below n, that pass a test
unfoldable pub places_where : (ℕ → Bool) → ℕ → List ℕ
places_where test n = filter test (places_below n)

-- the places of the plain words below n
abbrev pub plain_places : Verb → List (List ℕ) → ℕ → List ℕ
plain_places verb words n = places_where (is_plain verb words) n

-- the places below n at which an option is given
abbrev pub given_places : Verb → List (List ℕ) → List ℕ → ℕ → List ℕ
given_places verb words option n = places_where (is_given verb words option) n

-- what the word at a place stands for; an option stands for none, nor does a plain word too many
unfoldable pub kind_at : Verb → List (List ℕ) → ℕ → Option Kind
kind_at verb words i =
    if is_value verb words i then value_kind verb (word_at words (i - 1))
    else (if is_option (word_at words i) then None
    else plain_kind verb (length (plain_places verb words i)))

-- what the words before a place say of it: whether it is a value, and how many plain words there are
abbrev pub before_at : Verb → List (List ℕ) → ℕ → Before
before_at verb words i = record { is_value = is_value verb words i; plain = length (plain_places verb words i) }

-- this is known of a place after the command
abbrev pub IsKnown : Verb → List (List ℕ) → ℕ → Before → Type 0
IsKnown verb words i before = (0 < i) × (before ≡ before_at verb words i)
