-- What correcting gives of a layer. The layer is held as the block of each place, a flag of each place that is set where
-- the place is erased, a recorded checksum of each place, and the parity of the codewords, one codeword after the other.
use Rattle.std.specs.Prelude.{ℕ, ◌*◌, ◌==◌, not, nat_lt, if◌then◌else◌, Bool, false, is_none, unwrap_or, List, [], ◌++◌, length, map, take, drop, filter, find, slice_index, slice_index_or, Option}
use Rattle.std.specs.List.{range_with_len}
use Rattle.std.specs.Option.{option_map_or}
use Rattle.rs01_layers.specs.Layer.{column}
use Rattle.rs01_layers.specs.declared.lists.Placed.{Placed}
use Rattle.rs01_layers.specs.declared.task.LayerOut.{LayerOut}
use Rattle.rs01_layers.specs.declared.task.LayerOut.TheVariants.{Restored, Beyond, Inconsistent, BadSum}
use Rattle.rs01_sums.specs.Crc.{crc}
use Rattle.rs01_erase.specs.Completion.{completion}

-- how many codewords a layer has
unfoldable pub codewords : ℕ
codewords = 2048

-- the erased places, rising
unfoldable pub erased_places : List Bool → List ℕ
erased_places flags = filter (λ p. slice_index_or flags p false) (range_with_len 0 (length flags))

-- codeword b as it is held: byte b of each block, and its parity
unfoldable pub word_of : List (List ℕ) → List ℕ → ℕ → ℕ → List ℕ
word_of blocks parity r b = column blocks b ++ take r (drop (b * r) parity)

-- codeword b with its bytes at the erased places restored, or none where no codeword has its other bytes
unfoldable pub completed : List (List ℕ) → List Bool → List ℕ → ℕ → ℕ → Option (List ℕ)
completed blocks flags parity r b = completion (word_of blocks parity r b) (erased_places flags) r

-- the byte of each restored codeword at a place
unfoldable pub restored_block : List (List ℕ) → List Bool → List ℕ → ℕ → ℕ → List ℕ
restored_block blocks flags parity r p =
    map (λ b. slice_index (unwrap_or (completed blocks flags parity r b) []) p) (range_with_len 0 codewords)

-- each of these places with its block
abbrev pub placed : (ℕ → List ℕ) → List ℕ → List Placed
placed block places = map (λ p. record { place = p; block = block p }) places

-- the first codeword whose bytes at the other places no codeword has
unfoldable pub first_inconsistent : List (List ℕ) → List Bool → List ℕ → ℕ → Option ℕ
first_inconsistent blocks flags parity r = find (λ b. is_none (completed blocks flags parity r b)) (range_with_len 0 codewords)

-- the first erased place whose restored block has not its recorded checksum
unfoldable pub first_bad_sum : List (List ℕ) → List Bool → List ℕ → List ℕ → ℕ → Option ℕ
first_bad_sum blocks flags sums parity r =
    find (λ p. not (crc (restored_block blocks flags parity r p) == slice_index sums p)) (erased_places flags)

-- the first that fits: more places are erased than a codeword has parity bytes, a codeword is inconsistent, a checksum
-- is not the recorded one, and else the erased places with their restored blocks
unfoldable pub correct_of : List (List ℕ) → List Bool → List ℕ → List ℕ → ℕ → LayerOut
correct_of blocks flags sums parity r =
    if nat_lt r (length (erased_places flags)) then Beyond (length (erased_places flags)) else
    option_map_or (λ b. Inconsistent b) (first_inconsistent blocks flags parity r)
    (option_map_or (λ p. BadSum p) (first_bad_sum blocks flags sums parity r)
    (Restored (placed (restored_block blocks flags parity r) (erased_places flags))))
