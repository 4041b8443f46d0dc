-- Programs that run on a bank, four or eight of their steps at a time where these go together.
use Rattle.std.specs.Prelude.{◌≡◌, ◌≢◌, false, ℕ, Some, ◌+◌, ◌^◌, ◌<◌, ◌≤◌, List, drop, length, slice_get}
use Rattle.rs01_columns.specs.Bank.{lane}
use Rattle.rs01_columns.specs.Program.{meaning, stepped}
use Rattle.rs01_columns.specs.declared.program.Step.{Step}
use Rattle.rs01_columns.specs.declared.program.FourSteps.{FourSteps}

-- a number of parity bytes that the code allows, and a number of columns with room for the values at as many roots
pub record HasBounds (r columns : ℕ) : Type 0 where
  pub least : 8 ≤ r
  pub most : r ≤ 100
  pub room : 255 + r ≤ columns
  pub fits : columns ≤ 65536

-- a step between two different ones of the first n columns
pub record IsWithin (n : ℕ) (s : Step) : Type 0 where
  pub into : s.into < n
  pub from : s.from < n
  pub differ : s.into ≢ s.from
  pub factor : s.factor < 2 ^ 8

-- four such steps
pub record AreWithin (n : ℕ) (f : FourSteps) : Type 0 where
  pub one : IsWithin n f.one
  pub two : IsWithin n f.two
  pub three : IsWithin n f.three
  pub four : IsWithin n f.four

-- the four from this place on
pub record AreAt (steps : List Step) (place : ℕ) (f : FourSteps) : Type 0 where
  pub one : slice_get steps place ≡ Some f.one
  pub two : slice_get steps (place + 1) ≡ Some f.two
  pub three : slice_get steps (place + 2) ≡ Some f.three
  pub four : slice_get steps (place + 3) ≡ Some f.four

-- the bytes after four steps
abbrev pub stepped_four : FourSteps → (ℕ → ℕ) → ℕ → ℕ
stepped_four f g = stepped f.four (stepped f.three (stepped f.two (stepped f.one g)))

-- four steps that add to the same column
pub record AddTogether (f : FourSteps) : Type 0 where
  pub second : f.two.into ≡ f.one.into
  pub third : f.three.into ≡ f.one.into
  pub fourth : f.four.into ≡ f.one.into
  pub one_adds : f.one.fresh ≡ false
  pub two_adds : f.two.fresh ≡ false
  pub three_adds : f.three.fresh ≡ false
  pub four_adds : f.four.fresh ≡ false

-- the second four take from the same columns as the first four, and add to a column behind theirs
pub record TakeAlike (f g : FourSteps) : Type 0 where
  pub one : g.one.from ≡ f.one.from
  pub two : g.two.from ≡ f.two.from
  pub three : g.three.from ≡ f.three.from
  pub four : g.four.from ≡ f.four.from
  pub behind : f.one.into < g.one.into

-- two fours that can be added to their columns at once
pub record ArePaired (f g : FourSteps) : Type 0 where
  pub first : AddTogether f
  pub second : AddTogether g
  pub alike : TakeAlike f g

-- in each lane the new byte of each column is what f makes of the old ones
abbrev pub Becomes : List ℕ → List ℕ → ((ℕ → ℕ) → ℕ → ℕ) → Type 0
Becomes old new f = (l : ℕ) → l < 1024 → (j : ℕ) → lane new l j ≡ f (lane old l) j

-- the steps from `place` to `next` are run: what is left makes of the new bank what was left made of the old one
pub record Advances (steps : List Step) (place next : ℕ) (old new : List ℕ) : Type 0 where
  pub on : place < next
  pub most : next ≤ length steps
  pub same : (l : ℕ) → l < 1024 → (j : ℕ) → meaning (drop next steps) (lane new l) j ≡ meaning (drop place steps) (lane old l) j
