-- The grammar of the command line, row by row, and what it says of a word.
use Rattle.std.specs.Prelude.{ℕ, ◌-◌, ◌^◌, List, [], ◌∷◌, true, false, Option, Some, None, codes, option_map, count_by, find, map}
use Rattle.std.specs.List.{slice_get}
use Rattle.std.specs.Str.{bytes_eq}
use Rattle.rs01_words.specs.declared.table.Kind.{Kind}
use Rattle.rs01_words.specs.declared.table.Kind.TheVariants as kind
use Rattle.rs01_words.specs.declared.table.Verb.{Verb}
use Rattle.rs01_words.specs.declared.table.Verb.TheVariants.{Create, Fix, Verify, Scan, Read, Demo}
use Rattle.rs01_words.specs.declared.table.OptionWord.{OptionWord}
use Rattle.rs01_words.specs.declared.table.OptionWord.TheVariants.{Parity, Workers, Cut, Drive, Adaptive, Jump, Tries}
use Rattle.rs01_words.specs.declared.table.OptionRule.{OptionRule}
use Rattle.rs01_words.specs.declared.table.PlainName.{PlainName}
use Rattle.rs01_words.specs.declared.table.PlainName.TheVariants as plain
use Rattle.rs01_words.specs.declared.table.Preset.{Preset}
use Rattle.rs01_words.specs.declared.table.Preset.TheVariants as preset
use Rattle.rs01_words.specs.declared.table.PlainWord.{PlainWord}

-- the numbers that are asked for, each from the least to the greatest: of `--parity` and PARITY
abbrev pub parity_bytes : Kind
parity_bytes = kind.Parity 8 100

-- of `--workers`
abbrev pub threads : Kind
threads = kind.Number 1 32

-- of `--jump`
abbrev pub jump_lengths : Kind
jump_lengths = kind.Number 1 1048576

-- of `--tries`
abbrev pub asks : Kind
asks = kind.Number 1 16

-- of NUMBER
abbrev pub seeds : Kind
seeds = kind.Number 0 (2 ^ 64 - 1)

-- of SECTORS
abbrev pub made_sectors : Kind
made_sectors = kind.Number 1 65536

-- of LOST, which is at most SECTORS besides
abbrev pub lost_sectors : Kind
lost_sectors = kind.Number 0 65536

-- the numbers of parity bytes that have names: how each is written, and the number
abbrev pub named_presets : List Preset
named_presets = preset.Normal ∷ preset.High ∷ []

abbrev pub preset_text : Preset → List ℕ
preset_text preset.Normal = codes "normal"
preset_text preset.High = codes "high"

abbrev pub preset_bytes : Preset → ℕ
preset_bytes preset.Normal = 32
preset_bytes preset.High = 64

abbrev pub presets : List (List ℕ × ℕ)
presets = map (λ preset. (preset_text preset, preset_bytes preset)) named_presets

-- the commands, and how each is written
abbrev pub verbs : List Verb
verbs = Create ∷ Fix ∷ Verify ∷ Scan ∷ Read ∷ Demo ∷ []

abbrev pub name_of : Verb → List ℕ
name_of Create = codes "create"
name_of Fix = codes "fix"
name_of Verify = codes "verify"
name_of Scan = codes "scan"
name_of Read = codes "read"
name_of Demo = codes "demo"

abbrev pub commands : List (List ℕ × Verb)
commands = map (λ verb. (name_of verb, verb)) verbs

-- what plain words are called
abbrev pub plain_text : PlainName → List ℕ
plain_text plain.Image = codes "IMAGE"
plain_text plain.Ecc = codes "ECC"
plain_text plain.Number = codes "NUMBER"
plain_text plain.Sectors = codes "SECTORS"
plain_text plain.Parity = codes "PARITY"
plain_text plain.Lost = codes "LOST"

-- a plain word that must be there, and one that may be left out
abbrev pub needs : PlainName → Kind → PlainWord
needs name kind = record { name = name; kind = kind; needed = true }

abbrev pub may_have : PlainName → Kind → PlainWord
may_have name kind = record { name = name; kind = kind; needed = false }

-- the plain words of each command, in their order
abbrev pub plain_words_of : Verb → List PlainWord
plain_words_of Create = needs plain.Image kind.Name ∷ needs plain.Ecc kind.Name ∷ []
plain_words_of Fix = needs plain.Image kind.Name ∷ needs plain.Ecc kind.Name ∷ []
plain_words_of Verify = needs plain.Image kind.Name ∷ needs plain.Ecc kind.Name ∷ []
plain_words_of Scan = may_have plain.Ecc kind.Name ∷ []
plain_words_of Read = needs plain.Image kind.Name ∷ may_have plain.Ecc kind.Name ∷ []
plain_words_of Demo =
    needs plain.Number seeds ∷ needs plain.Sectors made_sectors ∷ needs plain.Parity parity_bytes ∷ needs plain.Lost lost_sectors ∷ []

-- the options of each command
abbrev pub options_of : Verb → List OptionWord
options_of Create = Parity ∷ Workers ∷ []
options_of Fix = Workers ∷ Cut ∷ []
options_of Verify = []
options_of Scan = Drive ∷ []
options_of Read = Drive ∷ Adaptive ∷ Jump ∷ Tries ∷ Workers ∷ []
options_of Demo = []

-- an option: its word, what its value is called and what it is if it takes one, how often it may be given, and its number
-- where it isn't given
pub record OptionRow : Type 0 where
  pub text : List ℕ
  pub name : List ℕ
  pub value : Option Kind
  pub most : ℕ
  pub default : ℕ

abbrev pub row : List ℕ → List ℕ → Option Kind → ℕ → ℕ → OptionRow
row text name value most default = record { text = text; name = name; value = value; most = most; default = default }

abbrev pub row_of : OptionWord → OptionRow
row_of Parity = row (codes "--parity") (codes "N") (Some parity_bytes) 1 32
row_of Workers = row (codes "--workers") (codes "W") (Some threads) 1 2
row_of Cut = row (codes "--cut") [] None 1 0
row_of Drive = row (codes "--drive") (codes "D") (Some kind.Drive) 16 0
row_of Adaptive = row (codes "--adaptive") [] None 1 0
row_of Jump = row (codes "--jump") (codes "J") (Some jump_lengths) 1 1
row_of Tries = row (codes "--tries") (codes "T") (Some asks) 1 1

-- what is said of an option beside its word
abbrev pub rule_of : OptionWord → OptionRule
rule_of option = record { value = (row_of option).value; most = (row_of option).most; default = (row_of option).default }

-- the number of the preset that a word names
abbrev pub preset_of : List ℕ → Option ℕ
preset_of word = option_map (λ row. row.1) (find (λ row. bytes_eq word row.0) presets)

-- the command that a word names
abbrev pub verb_of : List ℕ → Option Verb
verb_of word = option_map (λ row. row.1) (find (λ row. bytes_eq word row.0) commands)

-- the option that a word names, where the command has it
unfoldable pub option_of : Verb → List ℕ → Option OptionWord
option_of verb word = find (λ option. bytes_eq word (row_of option).text) (options_of verb)

-- what the plain word of a command with this number stands for
unfoldable pub plain_kind : Verb → ℕ → Option Kind
plain_kind verb n = option_map (λ word. word.kind) (slice_get (plain_words_of verb) n)

-- how many plain words a command needs
unfoldable pub needed_of : Verb → ℕ
needed_of verb = count_by (λ word. word.needed) (plain_words_of verb)
