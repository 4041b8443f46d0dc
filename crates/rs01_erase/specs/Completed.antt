-- A layer whose codewords are completed to those of given blocks.
use Rattle.std.specs.Prelude.{◌≡◌, ℕ, ◌+◌, ◌*◌, ◌<◌, List, Some, length, slice_index}
use Rattle.rs01_columns.specs.Layer.{word_at}
use Rattle.rs01_layers.specs.declared.input.LayerInput.{LayerInput}
use Rattle.rs01_erase.specs.Restoring.{completed_at}

-- each of the first n codewords of the input is completed to that of these blocks
abbrev pub AreCompleted : LayerInput → List ℕ → List ℕ → ℕ → Type 0
AreCompleted input places blocks n =
    (b : ℕ) → b < n → completed_at input places b ≡ Some (word_at input.parity_count blocks input.parity b)

-- the first n of these are the blocks at the places
abbrev pub HoldsBlocks : List ℕ → List ℕ → List ℕ → ℕ → Type 0
HoldsBlocks restored blocks places n =
    (k b : ℕ) → k < n → b < 2048 → slice_index restored (2048 * k + b) ≡ slice_index blocks (2048 * slice_index places k + b)

-- so are all of them
abbrev pub AreBlocksAt : List ℕ → List ℕ → List ℕ → Type 0
AreBlocksAt restored blocks places = HoldsBlocks restored blocks places (length places)
