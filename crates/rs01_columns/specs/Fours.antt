-- Four products that are added together, to one column or to two.
use Rattle.std.specs.Prelude.{◌≡◌, ℕ, ◌+◌, ◌*◌, ◌<◌, ◌≤◌, ◌⊎◌, List, bit_xor, slice_index}
use Rattle.rs01_gf256.specs.Field.{times}
use Rattle.rs01_columns.specs.Lanes.{HasLanes}
use Rattle.rs01_columns.specs.Ranges.{SameBetween}
pub use Rattle.rs01_columns.specs.Ranges.{SameBefore, SameFrom}
use Rattle.rs01_columns.specs.declared.adding.EightTables.{EightTables}
use Rattle.rs01_columns.specs.declared.adding.FourPlaces.{FourPlaces}
use Rattle.rs01_columns.specs.declared.adding.FourTables.{FourTables}
use Rattle.rs01_columns.specs.declared.adding.TwoPlaces.{TwoPlaces}
use Rattle.rs01_columns.specs.declared.program.FourSteps.{FourSteps}
use Rattle.rs01_columns.specs.declared.sixteen.FourSixteens.{FourSixteens}

-- only so many bytes from each of two places on may have changed
pub record OnlyInBoth (old new : List ℕ) (into : TwoPlaces) (width : ℕ) : Type 0 where
  pub before : SameBefore old new into.first
  pub between : SameBetween old new (into.first + width) into.second
  pub after : SameFrom old new (into.second + width)

-- the tables of the factors of four steps
pub record AreTablesOf (t : FourTables) (s : FourSteps) : Type 0 where
  pub one : t.one.factor ≡ s.one.factor
  pub two : t.two.factor ≡ s.two.factor
  pub three : t.three.factor ≡ s.three.factor
  pub four : t.four.factor ≡ s.four.factor

-- where the columns begin in a bank from which four steps take
pub record ArePlacesOf (p : FourPlaces) (s : FourSteps) : Type 0 where
  pub one : p.one ≡ 1088 * s.one.from
  pub two : p.two ≡ 1088 * s.two.from
  pub three : p.three ≡ 1088 * s.three.from
  pub four : p.four ≡ 1088 * s.four.from

-- the places so many bytes on
abbrev pub places_on : FourPlaces → ℕ → FourPlaces
places_on p on = record { one = p.one + on; two = p.two + on; three = p.three + on; four = p.four + on }

-- these are sixteen bytes from each of the places on
pub record AreLoaded (bank : List ℕ) (p : FourPlaces) (v : FourSixteens) : Type 0 where
  pub one : HasLanes v.one (λ k. slice_index bank (p.one + k))
  pub two : HasLanes v.two (λ k. slice_index bank (p.two + k))
  pub three : HasLanes v.three (λ k. slice_index bank (p.three + k))
  pub four : HasLanes v.four (λ k. slice_index bank (p.four + k))

-- a byte, and with it the products of four others
abbrev pub raised_by : FourTables → ℕ → ℕ → ℕ → ℕ → ℕ → ℕ
raised_by t old a b c d =
    bit_xor (bit_xor (bit_xor (bit_xor old (times t.one.factor a)) (times t.two.factor b)) (times t.three.factor c)) (times t.four.factor d)

-- of each of `width` bytes from `at` on, the new one is the old one with the products of the bytes at the four places
abbrev pub AreRaised : List ℕ → List ℕ → FourTables → FourPlaces → ℕ → ℕ → Type 0
AreRaised old new t p at width =
    (k : ℕ) → k < width → slice_index new (at + k)
    ≡ raised_by t (slice_index old (at + k)) (slice_index old (p.one + k)) (slice_index old (p.two + k)) (slice_index old (p.three + k)) (slice_index old (p.four + k))

-- so it is at both of two places, each by tables of its own
pub record AreBothRaised (old new : List ℕ) (t : EightTables) (p : FourPlaces) (into : TwoPlaces) (width : ℕ) : Type 0 where
  pub first : AreRaised old new t.low p into.first width
  pub second : AreRaised old new t.high p into.second width

-- so many bytes from each of the places on are within a length
pub record HasRoom (len width : ℕ) (p : FourPlaces) : Type 0 where
  pub one : p.one + width ≤ len
  pub two : p.two + width ≤ len
  pub three : p.three + width ≤ len
  pub four : p.four + width ≤ len

-- the second place lies behind so many bytes of the first, and has as many
pub record HasRoomForBoth (len width : ℕ) (into : TwoPlaces) : Type 0 where
  pub order : into.first + width ≤ into.second
  pub room : into.second + width ≤ len

-- the column at `from` lies apart from the one at `at`
abbrev pub IsApart : ℕ → ℕ → Type 0
IsApart at from = (from + 1024 ≤ at) ⊎ (at + 1024 ≤ from)

-- so do the columns at the four places
pub record AreApart (at : ℕ) (p : FourPlaces) : Type 0 where
  pub one : IsApart at p.one
  pub two : IsApart at p.two
  pub three : IsApart at p.three
  pub four : IsApart at p.four

-- a column is within a length, and so are the four that it takes from, which lie apart
pub record TakesFour (len into : ℕ) (p : FourPlaces) : Type 0 where
  pub room : into + 1024 ≤ len
  pub places : HasRoom len 1024 p
  pub apart : AreApart into p

-- so it is with two columns
pub record BothTakeFour (len : ℕ) (into : TwoPlaces) (p : FourPlaces) : Type 0 where
  pub room : HasRoomForBoth len 1024 into
  pub places : HasRoom len 1024 p
  pub apart : AreApart into.first p
  pub apart_too : AreApart into.second p
