-- What is read in the lines that a run has put.
use Rattle.std.specs.Prelude.{ℕ, ◌-◌, ◌^◌, ◌==◌, List, [], ◌∷◌, Bool, Option, Some, None, drop, length, codes, is_some, take_while, if◌then◌else◌}
use Rattle.std.specs.List.{starts_with}
use Rattle.std.specs.Option.{option_and_then}
use Rattle.rs01_words.specs.Value.{is_digit, number_of, up_to}

-- whether bytes begin with a text
abbrev pub begins : List ℕ → List ℕ → Bool
begins bytes text = starts_with (λ a b. a == b) bytes text

-- what stands behind a text where it stands first
unfoldable pub after : List ℕ → List ℕ → Option (List ℕ)
after text [] = None
after text (b ∷ bytes) = if begins (b ∷ bytes) text then Some (drop (length text) (b ∷ bytes)) else after text bytes

-- whether a text stands somewhere
abbrev pub holds : List ℕ → List ℕ → Bool
holds text bytes = is_some (after text bytes)

-- the number whose digits stand first, where it is one of a u64
abbrev pub number_at : List ℕ → Option ℕ
number_at bytes = up_to (2 ^ 64 - 1) (number_of (take_while is_digit bytes))

-- the number behind a text
unfoldable pub number_after : List ℕ → List ℕ → Option ℕ
number_after text bytes = option_and_then number_at (after text bytes)

-- two numbers that are both there
abbrev pub both : Option ℕ → Option ℕ → Option (ℕ × ℕ)
both None b = None
both (Some a) None = None
both (Some a) (Some b) = Some (a, b)

-- how many sectors of the fullest layer are erased, and how many can be restored, by its line
unfoldable pub fullest_in : List ℕ → Option (ℕ × ℕ)
fullest_in bytes =
    option_and_then (λ rest. both (number_after (codes ": ") rest) (number_after (codes " of ") rest))
    (after (10 ∷ codes "fullest layer ") bytes)
