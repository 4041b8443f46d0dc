-- How a command is called, in one line that is made from its rows.
use Rattle.std.specs.Prelude.{ℕ, List, [], ◌∷◌, ◌++◌, codes, is_some, nat_lt, flat_map, if◌then◌else◌}
use Rattle.rs01_words.specs.declared.table.OptionWord.{OptionWord}
use Rattle.rs01_words.specs.declared.table.PlainWord.{PlainWord}
use Rattle.rs01_words.specs.declared.table.Verb.{Verb}
use Rattle.rs01_words.specs.Grammar.{name_of, options_of, plain_text, plain_words_of, row_of}

-- a plain word, in brackets where it may be left out
unfoldable pub plain_part : PlainWord → List ℕ
plain_part word =
    if word.needed then codes " " ++ plain_text word.name else codes " [" ++ (plain_text word.name ++ codes "]")

-- what the value of an option is called, where it takes one
unfoldable pub value_part : OptionWord → List ℕ
value_part option = if is_some (row_of option).value then codes " " ++ (row_of option).name else []

-- an option with its value
unfoldable pub option_form : OptionWord → List ℕ
option_form option = (row_of option).text ++ value_part option

-- points where an option may be given again
unfoldable pub again_part : OptionWord → List ℕ
again_part option = if nat_lt 1 (row_of option).most then codes " .." else []

unfoldable pub option_part : OptionWord → List ℕ
option_part option = codes " [" ++ (option_form option ++ (codes "]" ++ again_part option))

-- a command with its plain words and its options
unfoldable pub call_line : Verb → List ℕ
call_line verb =
    name_of verb ++ (flat_map plain_part (plain_words_of verb) ++ (flat_map option_part (options_of verb) ++ 10 ∷ []))

-- the name of the program
unfoldable pub program : List ℕ
program = codes "usage: dvdisaster_rs01 "

-- the same behind the program's name
unfoldable pub usage_line : Verb → List ℕ
usage_line verb = program ++ call_line verb
