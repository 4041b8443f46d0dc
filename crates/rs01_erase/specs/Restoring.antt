-- The restored blocks of a layer while they are being made: 2048 bytes of each erased place, one place after the other.
use Rattle.std.specs.Prelude.{◌≡◌, ◌≢◌, ℕ, ◌+◌, ◌-◌, ◌*◌, ◌<◌, ◌≤◌, ◌==◌, not, if◌then◌else◌, Bool, List, find, length, map, take, drop, slice_index, Option, Some, None}
use Rattle.std.specs.Option.{option_map}
use Rattle.rs01_sums.specs.Crc.{crc}
use Rattle.std.specs.List.{range_with_len}
use Rattle.rs01_layers.specs.declared.input.LayerInput.{LayerInput}
use Rattle.rs01_layers.specs.declared.lists.Placed.{Placed}
use Rattle.rs01_columns.specs.Layer.{SameOutside}
use Rattle.rs01_erase.specs.Completion.{completion}
use Rattle.rs01_erase.specs.LayerValue.{erased_places, word_of}
use Rattle.rs01_erase.specs.Correcting.{blocks_in}

-- codeword b of the input with its bytes at these places restored, or none
unfoldable pub completed_at : LayerInput → List ℕ → ℕ → Option (List ℕ)
completed_at input places b = completion (word_of (blocks_in input) input.parity input.parity_count b) places input.parity_count

-- the input has its parity, and these are its erased places, at most as many as a codeword has parity bytes
pub record AreErased (input : LayerInput) (places : List ℕ) : Type 0 where
  pub parity : length input.parity ≡ 2048 * input.parity_count
  pub erased : places ≡ erased_places input.erased
  pub few : length places ≤ input.parity_count

-- the blocks of the input, with anything in those of these places
pub record AreFilled (input : LayerInput) (places blocks : List ℕ) : Type 0 where
  pub size : length blocks ≡ 2048 * (255 - input.parity_count)
  pub kept : SameOutside input.data_ blocks places

-- the word, or none where this is false
abbrev pub word_if : Bool → List ℕ → Option (List ℕ)
word_if here word = if here then Some word else None

-- byte b of each of the restored blocks is the word's byte at its place
abbrev pub HoldsWord : List ℕ → List ℕ → List ℕ → ℕ → Type 0
HoldsWord word places restored b =
    (k : ℕ) → k < length places → slice_index restored (2048 * k + b) ≡ slice_index word (slice_index places k)

-- all other bytes of the restored blocks are as before
abbrev pub HoldsOthers : List ℕ → List ℕ → ℕ → Type 0
HoldsOthers old new b = (k c : ℕ) → c < 2048 → c ≢ b → slice_index new (2048 * k + c) ≡ slice_index old (2048 * k + c)

-- codeword b of the input is completed, and its bytes stand in the restored blocks
pub record HoldsCodeword (input : LayerInput) (places restored : List ℕ) (b : ℕ) : Type 0 where
  pub word : List ℕ
  pub completed : completed_at input places b ≡ Some word
  pub bytes : HoldsWord word places restored b

-- so are the first n codewords, and the next, where there is one, is inconsistent
pub record HoldsCodewords (input : LayerInput) (places restored : List ℕ) (n : ℕ) : Type 0 where
  pub most : n ≤ 2048
  pub held : (b : ℕ) → b < n → HoldsCodeword input places restored b
  pub next : n < 2048 → completed_at input places n ≡ None

-- the k-th of the restored blocks
unfoldable pub block_in : List ℕ → ℕ → List ℕ
block_in restored k = take 2048 (drop (2048 * k) restored)

-- the places with their blocks
unfoldable pub placed_blocks : List ℕ → List ℕ → List Placed
placed_blocks restored places =
    map (λ k. record { place = slice_index places k; block = block_in restored k }) (range_with_len 0 (length places))

-- the first of the places whose block has not its recorded checksum
unfoldable pub bad_sum_in : List ℕ → List ℕ → List ℕ → Option ℕ
bad_sum_in restored places sums =
    option_map (λ k. slice_index places k)
    (find (λ k. not (crc (block_in restored k) == slice_index sums (slice_index places k))) (range_with_len 0 (length places)))
