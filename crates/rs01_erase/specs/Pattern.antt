-- The erased places of many codewords.
use Rattle.std.specs.Prelude.{◌≡◌, ℕ, ◌≤◌, List, Option, length, map}
use Rattle.rs01_erase.specs.Completion.{ArePlaces, IsRestored, completion}
use Rattle.rs01_erase.specs.PowerSums.{locator}

-- the places, and the number of parity bytes of the codewords
pub record PatternOf : Type 0 where
  pub places : List ℕ
  pub parity_count : ℕ

-- places of a codeword, at most as many as it has parity bytes, and their locators
pub record IsPattern (places : List ℕ) (r : ℕ) (locators : List ℕ) : Type 0 where
  pub places_are : ArePlaces places
  pub few : length places ≤ r
  pub most : r ≤ 100
  pub located : locators ≡ map locator places

-- the word with its bytes at the places restored, or none
abbrev pub completed_by : PatternOf → List ℕ → Option (List ℕ)
completed_by pattern word = completion word pattern.places pattern.parity_count

-- the new word is the old one with these bytes restored
abbrev pub IsRestoredBy : PatternOf → List ℕ → List ℕ → Type 0
IsRestoredBy pattern old new = IsRestored old new pattern.places pattern.parity_count
