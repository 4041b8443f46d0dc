-- What is told of each command, made from its rows, so that each range and default that is told is the one by which the
-- words are read.
use Rattle.std.specs.Prelude.{ℕ, List, [], ◌∷◌, ◌++◌, Option, Some, None, codes, nat_lt, flat_map, if◌then◌else◌}
use Rattle.std.specs.Fmt.{decimal}
use Rattle.rs01_words.specs.declared.table.Kind.{Kind}
use Rattle.rs01_words.specs.declared.table.Kind.TheVariants as kind
use Rattle.rs01_words.specs.declared.table.OptionWord.{OptionWord}
use Rattle.rs01_words.specs.declared.table.PlainWord.{PlainWord}
use Rattle.rs01_words.specs.declared.table.Preset.{Preset}
use Rattle.rs01_words.specs.declared.table.Verb.{Verb}
use Rattle.rs01_words.specs.Grammar.{named_presets, options_of, plain_text, plain_words_of, preset_bytes, preset_text, row_of, verbs}
use Rattle.rs01_help.specs.Usage.{call_line, option_form, program}
use Rattle.rs01_help.specs.Senses.{option_sense, plain_sense, verb_sense}

-- a preset, with its number
unfoldable pub preset_part : Preset → List ℕ
preset_part preset = codes ", " ++ (preset_text preset ++ (codes " (" ++ (decimal (preset_bytes preset) ++ codes ")")))

unfoldable pub span_part : ℕ → ℕ → List ℕ
span_part low high = codes ", " ++ (decimal low ++ (codes " to " ++ decimal high))

-- which numbers a word may be, where it is one
unfoldable pub range_part : Kind → List ℕ
range_part kind.Name = []
range_part kind.Drive = []
range_part (kind.Number low high) = span_part low high
range_part (kind.Parity low high) = span_part low high ++ flat_map preset_part named_presets

unfoldable pub default_part : ℕ → List ℕ
default_part default = codes "; " ++ (decimal default ++ codes " if it isn't given")

-- the numbers of an option, and the one that holds where it isn't given
unfoldable pub numbers_part : Option Kind → ℕ → List ℕ
numbers_part None default = []
numbers_part (Some kind.Name) default = []
numbers_part (Some kind.Drive) default = []
numbers_part (Some (kind.Number low high)) default = range_part (kind.Number low high) ++ default_part default
numbers_part (Some (kind.Parity low high)) default = range_part (kind.Parity low high) ++ default_part default

-- how often an option may be given, where that is more than once
unfoldable pub most_part : ℕ → List ℕ
most_part most = if nat_lt 1 most then codes ", at most " ++ (decimal most ++ codes " times") else []

unfoldable pub option_line : OptionWord → List ℕ
option_line option =
    codes "    " ++ (option_form option ++ (codes ": " ++ (option_sense option
    ++ (numbers_part (row_of option).value (row_of option).default ++ (most_part (row_of option).most ++ 10 ∷ [])))))

unfoldable pub plain_line : PlainWord → List ℕ
plain_line word =
    codes "    " ++ (plain_text word.name ++ (codes ": " ++ (plain_sense word.name ++ (range_part word.kind ++ 10 ∷ []))))

unfoldable pub sense_line : Verb → List ℕ
sense_line verb = codes "    " ++ (verb_sense verb ++ 10 ∷ [])

-- a command: how it is called, what it does, and its words and options
unfoldable pub page : Verb → List ℕ
page verb =
    call_line verb ++ (sense_line verb
    ++ (flat_map plain_line (plain_words_of verb) ++ flat_map option_line (options_of verb)))

unfoldable pub usage_page : Verb → List ℕ
usage_page verb = program ++ page verb

-- all commands, between what stands before them and behind them
unfoldable pub help : List ℕ → List ℕ → List ℕ
help head tail = head ++ (flat_map page verbs ++ tail)
