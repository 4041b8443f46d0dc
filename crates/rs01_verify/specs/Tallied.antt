-- What a sector adds to the lists and the counts of the erased sectors, by how it was found.
use Rattle.std.specs.Prelude.{ℕ, ◌≡◌, ◌≤◌, ◌+◌, ◌++◌, List, [], ◌∷◌, length, slice_index, slice_set}
use Rattle.rs01_layers.specs.Layout.{layer_of, layers_of}
use Rattle.rs01_layers.specs.declared.shape.Shape.{Shape}
use Rattle.rs01_ecchead.specs.declared.condition.Condition.{Condition}
use Rattle.rs01_ecchead.specs.declared.condition.Condition.TheVariants.{Altered, Missing, Sound}
use Rattle.rs01_verify.specs.declared.tally.Tally.{Tally}

-- to the list of the missing ones, and to that of the altered ones
abbrev pub missing_part : Condition → ℕ → List ℕ
missing_part Sound s = []
missing_part Missing s = s ∷ []
missing_part Altered s = []

abbrev pub altered_part : Condition → ℕ → List ℕ
altered_part Sound s = []
altered_part Missing s = []
altered_part Altered s = s ∷ []

-- to the count of layer l
abbrev pub counts_after : Condition → ℕ → List ℕ → List ℕ
counts_after Sound l counts = counts
counts_after Missing l counts = slice_set counts l (slice_index counts l + 1)
counts_after Altered l counts = slice_set counts l (slice_index counts l + 1)

-- a sector was put into the lists as it was found, and the counts are as before
pub record Lists (s : ℕ) (found : Condition) (old new : Tally) : Type 0 where
  pub missing : new.missing.items ≡ old.missing.items ++ missing_part found s
  pub altered : new.altered.items ≡ old.altered.items ++ altered_part found s
  pub counts : new.counts.items ≡ old.counts.items

-- how many layers a shape has
abbrev pub layers_in : Shape → ℕ
layers_in shape = layers_of shape.sectors shape.parity

-- a sector was added to the lists and to the count of its layer
pub record Adds (shape : Shape) (s : ℕ) (found : Condition) (old new : Tally) : Type 0 where
  pub missing : new.missing.items ≡ old.missing.items ++ missing_part found s
  pub altered : new.altered.items ≡ old.altered.items ++ altered_part found s
  pub counts : new.counts.items ≡ counts_after found (layer_of shape.sectors shape.parity s) old.counts.items

-- there is a count for each layer, and none is above n
pub record IsCounted (layers n : ℕ) (tally : Tally) : Type 0 where
  pub all : length tally.counts.items ≡ layers
  pub bound : (l : ℕ) → slice_index tally.counts.items l ≤ n
