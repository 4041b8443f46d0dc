-- The command that the words ask for, or what is wrong with them.
use Rattle.std.specs.Prelude.{◌≢◌, ◌<◌, ◌≤◌, ℕ, ◌+◌, List, [], ◌∷◌, Bool, Option, Some, None, Result, Ok, Err, IfSome, is_some, map, length}
use Rattle.std.specs.List.{slice_get}
use Rattle.std.specs.Option.{option_and_then}
use Rattle.rs01_words.specs.declared.command.Command.{Command}
use Rattle.rs01_words.specs.declared.command.Command.TheVariants as command
use Rattle.rs01_words.specs.declared.fault.WordFault.TheVariants.{NoCommand, UnknownCommand}
use Rattle.rs01_words.specs.declared.fault.WordRefused.{WordRefused}
use Rattle.rs01_words.specs.declared.table.Kind.{Kind}
use Rattle.rs01_words.specs.declared.table.Kind.TheVariants as kind
use Rattle.rs01_words.specs.declared.table.Verb.{Verb}
use Rattle.rs01_words.specs.declared.table.Verb.TheVariants.{Create, Fix, Verify, Scan, Read, Demo}
use Rattle.rs01_words.specs.declared.table.OptionWord.{OptionWord}
use Rattle.rs01_words.specs.declared.table.OptionWord.TheVariants.{Parity, Workers, Cut, Drive, Adaptive, Jump, Tries}
use Rattle.rs01_words.specs.Grammar.{parity_bytes, threads, jump_lengths, asks, seeds, made_sectors, lost_sectors, row_of, verb_of}
use Rattle.rs01_words.specs.Value.{IsOf, given_number}
use Rattle.rs01_words.specs.Line.{word_at, plain_places, given_places}
use Rattle.rs01_words.specs.Refusal.{refused, plain_at, plain_number, refusal_of}

-- the place of a plain word that may be left out
abbrev pub plain_if_any : Verb → List (List ℕ) → ℕ → Option ℕ
plain_if_any verb words n = slice_get (plain_places verb words (length words)) n

-- the places at which an option is given
abbrev pub option_places : Verb → List (List ℕ) → OptionWord → List ℕ
option_places verb words option = given_places verb words (row_of option).text (length words)

-- whether an option is given
abbrev pub has_option : Verb → List (List ℕ) → OptionWord → Bool
has_option verb words option = is_some (slice_get (option_places verb words option) 0)

-- the word after an option, where the option is given
abbrev pub option_word : Verb → List (List ℕ) → OptionWord → Option (List ℕ)
option_word verb words option = option_and_then (λ i. slice_get words (i + 1)) (slice_get (option_places verb words option) 0)

-- the number of an option: that of its value where it is given, else its default
unfoldable pub option_number : Verb → List (List ℕ) → OptionWord → ℕ
option_number verb words option = given_number option (option_word verb words option)

-- the places of the drives' names, in order
unfoldable pub drive_places : Verb → List (List ℕ) → List ℕ
drive_places verb words = map (λ i. i + 1) (option_places verb words Drive)

-- what the words of a command ask for, where nothing is wrong with them
abbrev pub command_of : Verb → List (List ℕ) → Command
command_of Create words =
    command.Create (plain_at Create words 0) (plain_at Create words 1)
    (option_number Create words Parity) (option_number Create words Workers)
command_of Fix words =
    command.Fix (plain_at Fix words 0) (plain_at Fix words 1)
    (option_number Fix words Workers) (has_option Fix words Cut)
command_of Verify words = command.Verify (plain_at Verify words 0) (plain_at Verify words 1)
command_of Scan words = command.Scan (plain_if_any Scan words 0) (drive_places Scan words)
command_of Read words =
    command.Read (plain_at Read words 0) (plain_if_any Read words 1) (drive_places Read words)
    (has_option Read words Adaptive) (option_number Read words Jump)
    (option_number Read words Tries) (option_number Read words Workers)
command_of Demo words =
    command.Demo (plain_number Demo words 0 seeds) (plain_number Demo words 1 made_sectors)
    (plain_number Demo words 2 parity_bytes) (plain_number Demo words 3 lost_sectors)

-- the answer to the words of a command, by what is wrong with them
abbrev pub answer_of : Verb → List (List ℕ) → Option WordRefused → Result Command WordRefused
answer_of verb words None = Ok (command_of verb words)
answer_of verb words (Some refusal) = Err refusal

abbrev pub answer_by : Option Verb → List (List ℕ) → Result Command WordRefused
answer_by None words = Err (refused UnknownCommand 0)
answer_by (Some verb) words = answer_of verb words (refusal_of verb words)

-- the answer to the words
unfoldable pub words_of : List (List ℕ) → Result Command WordRefused
words_of [] = Err (refused NoCommand 0)
words_of (word ∷ rest) = answer_by (verb_of word) (word ∷ rest)

-- what a command is made of: the places of the names of its image, its error correction file and its drives, and its
-- numbers, each with its range
pub record Parts : Type 0 where
  pub image : Option ℕ
  pub ecc : Option ℕ
  pub drives : List ℕ
  pub numbers : List (ℕ × Kind)

abbrev pub parts : Option ℕ → Option ℕ → List ℕ → List (ℕ × Kind) → Parts
parts image ecc drives numbers = record { image = image; ecc = ecc; drives = drives; numbers = numbers }

abbrev pub parts_of : Command → Parts
parts_of (command.Create image ecc parity workers) = parts (Some image) (Some ecc) [] ((parity, parity_bytes) ∷ (workers, threads) ∷ [])
parts_of (command.Fix image ecc workers cut) = parts (Some image) (Some ecc) [] ((workers, threads) ∷ [])
parts_of (command.Verify image ecc) = parts (Some image) (Some ecc) [] []
parts_of (command.Scan ecc drives) = parts None ecc drives []
parts_of (command.Read image ecc drives adaptive jump tries workers) =
    parts (Some image) ecc drives ((jump, jump_lengths) ∷ (tries, asks) ∷ (workers, threads) ∷ [])
parts_of (command.Demo number sectors parity lost) =
    parts None None [] ((number, seeds) ∷ (sectors, made_sectors) ∷ (parity, parity_bytes) ∷ (lost, kind.Number 0 sectors) ∷ [])

-- places of words of which there are n
abbrev pub AreWithin : ℕ → List ℕ → Type 0
AreWithin n places = (i : ℕ) → IfSome (slice_get places i) (λ place. place < n)

-- each number is in its range
abbrev pub AreOf : List (ℕ × Kind) → Type 0
AreOf [] = Unit {0}
AreOf (number ∷ rest) = IsOf number.1 number.0 × AreOf rest

-- each name is the place of one of n words, the drives are few, and each number is in its range
abbrev pub IsWithin : ℕ → Command → Type 0
IsWithin n asked =
    IfSome (parts_of asked).image (λ place. place < n) × IfSome (parts_of asked).ecc (λ place. place < n)
    × AreWithin n (parts_of asked).drives × (length (parts_of asked).drives ≤ 16) × AreOf (parts_of asked).numbers

-- the image and its error correction file have different names
abbrev pub NamesDiffer : List (List ℕ) → Command → Type 0
NamesDiffer words asked =
    IfSome (parts_of asked).image (λ image. IfSome (parts_of asked).ecc (λ ecc. word_at words image ≢ word_at words ecc))

-- the names of the drives in the words, in order, and none where the words ask for nothing
abbrev pub names_in : List (List ℕ) → Result Command WordRefused → List (List ℕ)
names_in words (Ok asked) = map (word_at words) (parts_of asked).drives
names_in words (Err refusal) = []

unfoldable pub drive_names_of : List (List ℕ) → List (List ℕ)
drive_names_of words = names_in words (words_of words)
