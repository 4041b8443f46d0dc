-- What a person is told of a fault in the words: the word as it was written, and how its command is called.
use Rattle.std.specs.Prelude.{ℕ, List, [], ◌∷◌, ◌++◌, Option, Some, None, Result, Ok, Err, codes, flat_map}
use Rattle.std.specs.List.{slice_get}
use Rattle.std.specs.Option.{option_and_then}
use Rattle.std.specs.Fmt.{decimal}
use Rattle.rs01_words.specs.declared.command.Command.{Command}
use Rattle.rs01_words.specs.declared.fault.WordRefused.{WordRefused}
use Rattle.rs01_words.specs.declared.table.Verb.{Verb}
use Rattle.rs01_words.specs.Command.{words_of}
use Rattle.rs01_words.specs.Grammar.{name_of, verb_of, verbs}
use Rattle.rs01_help.specs.Usage.{usage_line}

-- the word at a place, or that there is none
unfoldable pub word_line : ℕ → Option (List ℕ) → List ℕ
word_line place None = codes "word " ++ (decimal place ++ (codes " isn't there" ++ 10 ∷ []))
word_line place (Some word) = codes "word " ++ (decimal place ++ (codes " is " ++ (word ++ 10 ∷ [])))

unfoldable pub name_part : Verb → List ℕ
name_part verb = codes " " ++ name_of verb

-- where more is told
unfoldable pub more_part : List ℕ
more_part = codes "; dvdisaster_rs01 --help tells them" ++ 10 ∷ []

-- how a command is called, and which commands there are where none is named
unfoldable pub usage_of : Option Verb → List ℕ
usage_of None = codes "commands:" ++ (flat_map name_part verbs ++ more_part)
usage_of (Some verb) = usage_line verb

-- the command that the first word names
abbrev pub first_verb : List (List ℕ) → Option Verb
first_verb words = option_and_then verb_of (slice_get words 0)

abbrev pub told : List (List ℕ) → Result Command WordRefused → List ℕ
told words (Ok asked) = []
told words (Err refused) = word_line refused.place (slice_get words refused.place) ++ usage_of (first_verb words)

-- by what is wrong with the words, and nothing where nothing is
unfoldable pub fault_lines : List (List ℕ) → List ℕ
fault_lines words = told words (words_of words)
