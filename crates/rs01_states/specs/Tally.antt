-- What is kept beside the states: of each layer, how many of its sectors aren't good.
use Rattle.std.specs.Prelude.{◌≡◌, ℕ, ◌%◌, ◌^◌, ◌<◌, ◌≤◌, ◌==◌, ◌&&◌, not, Bool, List, length, slice_index, slice_set, Option, Some, None}
use Rattle.rs01_layers.specs.Layout.{layers_of}
use Rattle.rs01_layers.specs.declared.shape.Shape.{Shape}
use Rattle.rs01_states.specs.declared.state.State.{State}
use Rattle.rs01_states.specs.declared.state.State.TheVariants.{Good}
use Rattle.rs01_states.specs.Sparing.{IsUnread, state_of, within_bound, open_count, spared_where, spared_all}

-- what becomes of sector s where the unread sectors of layer l alone are spared
abbrev pub spared_in_layer : ℕ → ℕ → List State → ℕ → State
spared_in_layer layers l states s = spared_where (state_of states s) (s % layers == l)

-- a count for each layer, and all of them 0
pub record AreZeros (layers : ℕ) (counts : List ℕ) : Type 0 where
  pub len : length counts ≡ layers
  pub zero : (l : ℕ) → l < layers → slice_index counts l ≡ 0

-- a count for each layer, and all of them right
pub record AreCounts (layers : ℕ) (states : List State) (counts : List ℕ) : Type 0 where
  pub some : 1 ≤ layers
  pub len : length counts ≡ layers
  pub right : (l : ℕ) → l < layers → slice_index counts l ≡ open_count layers l states

-- the counts are right, and an unread sector lies in a layer that is still beyond its bound
pub record IsTally (layers bound : ℕ) (states : List State) (counts : List ℕ) : Type 0 where
  pub few : length states < 2 ^ 32
  pub counted : AreCounts layers states counts
  pub beyond : (s : ℕ) → IsUnread states s → bound < open_count layers (s % layers) states

-- what is left after sector s became good, and whether its layer came within its bound by that
pub record GoodIsMarked (layers bound s : ℕ) (old new : List State) (counts : List ℕ) (came : Bool) : Type 0 where
  pub tally : IsTally layers bound new counts
  pub states_are : new ≡ spared_all layers bound (slice_set old s Good)
  pub came_is : came ≡ (within_bound layers bound (s % layers) new && not (within_bound layers bound (s % layers) old))

-- the tally of a shape; without a shape nothing is counted
abbrev pub IsKept : Option Shape → List State → List ℕ → Type 0
IsKept None states counts = length states < 2 ^ 32
IsKept (Some shape) states counts = IsTally (layers_of shape.sectors shape.parity) shape.parity states counts
