-- What a file records behind its header.
use Rattle.std.specs.Prelude.{ℕ, ◌≡◌, ◌+◌, ◌*◌, ◌/◌, List, length, map}
use Rattle.std.specs.List.{range_with_len}
use Rattle.md5.specs.declared.Md5.{Md5}
use Rattle.rs01_layers.specs.Layout.{parity_offset}
use Rattle.rs01_ecchead.specs.Header.{number_at}
use Rattle.rs01_ecchead.specs.Pieces.{IsFed}
use Rattle.rs01_lists.specs.Bytes.{part}

-- the numbers of a piece, 4 bytes each
abbrev pub numbers_in : List ℕ → List ℕ
numbers_in piece = map (λ j. number_at piece (4 * j)) (range_with_len 0 (length piece / 4))

-- the recorded checksum of a sector
abbrev pub sum_in : List ℕ → ℕ → ℕ
sum_in file s = number_at file (4096 + 4 * s)

-- the recorded checksums of the first n sectors
unfoldable pub sums_in : List ℕ → ℕ → List ℕ
sums_in file n = map (sum_in file) (range_with_len 0 n)

-- the recorded parity of codeword b of layer l, in a file of n sectors with r parity bytes a codeword
abbrev pub parity_in : List ℕ → ℕ → ℕ → ℕ → ℕ → List ℕ
parity_in file n r l b = part file (parity_offset n r l b) r

-- these are the recorded checksums of the first n sectors, and a digest was fed their bytes
pub record AreRecorded (file : List ℕ) (n : ℕ) (sums : List ℕ) (old new : Md5) : Type 0 where
  pub list : sums ≡ sums_in file n
  pub fed : IsFed old new (part file 4096 (4 * n))
