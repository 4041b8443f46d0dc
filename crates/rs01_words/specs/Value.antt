-- The value that a word stands for, by its kind.
use Rattle.std.specs.Prelude.{ℕ, ◌≤◌, ◌+◌, ◌-◌, ◌*◌, List, Bool, true, not, ◌&&◌, ◌==◌, nat_le, Option, Some, None, Result, Ok, Err, option_map, unwrap_or, fold, length, if◌then◌else◌}
use Rattle.std.specs.List.{list_all}
use Rattle.std.specs.Result.{result_unwrap_or}
use Rattle.rs01_words.specs.declared.table.Kind.{Kind}
use Rattle.rs01_words.specs.declared.table.Kind.TheVariants.{Name, Drive, Number, Parity}
use Rattle.rs01_words.specs.declared.table.OptionWord.{OptionWord}
use Rattle.rs01_words.specs.Grammar.{presets, preset_of, row_of}
use Rattle.rs01_words.specs.declared.fault.WordFault.{WordFault}
use Rattle.rs01_words.specs.declared.fault.WordFault.TheVariants.{BadNumber, OutOfRange}

-- whether a character is one of 0 to 9
abbrev pub is_digit : ℕ → Bool
is_digit b = nat_le 48 b && nat_le b 57

-- whether a word is one or more digits
abbrev pub is_decimal : List ℕ → Bool
is_decimal word = not (length word == 0) && list_all is_digit word

-- the number that decimal digits stand for, the first digit highest
unfoldable pub number_of : List ℕ → ℕ
number_of word = fold (λ n b. 10 * n + (b - 48)) 0 word

-- a number, where it is at most high
abbrev pub up_to : ℕ → ℕ → Option ℕ
up_to high n = if nat_le n high then Some n else None

-- the number of a word, where it is one from low to high
abbrev pub number_within : ℕ → ℕ → List ℕ → Result ℕ WordFault
number_within low high word =
    if not (is_decimal word) then Err BadNumber
    else (if nat_le low (number_of word) && nat_le (number_of word) high then Ok (number_of word) else Err OutOfRange)

-- the number that a word stands for; a name stands for none, and 0 is put in its place
abbrev pub value_of : Kind → List ℕ → Result ℕ WordFault
value_of Name word = Ok 0
value_of Drive word = Ok 0
value_of (Number low high) word = number_within low high word
value_of (Parity low high) word = unwrap_or (option_map Ok (preset_of word)) (number_within low high word)

-- the least and the greatest number of a kind; a name stands for 0
abbrev pub kind_low : Kind → ℕ
kind_low Name = 0
kind_low Drive = 0
kind_low (Number low high) = low
kind_low (Parity low high) = low

abbrev pub kind_high : Kind → ℕ
kind_high Name = 0
kind_high Drive = 0
kind_high (Number low high) = high
kind_high (Parity low high) = high

-- a number in the range of its kind
abbrev pub IsOf : Kind → ℕ → Type 0
IsOf kind n = (kind_low kind ≤ n) × (n ≤ kind_high kind)

-- whether a kind's range has a number; that of parity bytes has all presets
abbrev pub is_sound : Kind → Bool
is_sound Name = true
is_sound Drive = true
is_sound (Number low high) = nat_le low high
is_sound (Parity low high) = nat_le low high && list_all (λ preset. nat_le low preset.1 && nat_le preset.1 high) presets

-- the number that a word stands for, and the one given for a word that stands for none
abbrev pub number_or : Kind → ℕ → List ℕ → ℕ
number_or kind other word = result_unwrap_or (value_of kind word) other

-- what the value of an option is; one that takes none has the range of a name
abbrev pub option_kind : OptionWord → Kind
option_kind option = unwrap_or (row_of option).value Name

-- the number of an option: that of its value where it is given, else its default
abbrev pub given_number : OptionWord → Option (List ℕ) → ℕ
given_number option None = (row_of option).default
given_number option (Some word) = number_or (option_kind option) (row_of option).default word
