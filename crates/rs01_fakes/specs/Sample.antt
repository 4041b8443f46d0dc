-- A worked image, ten sectors of zeros, and its error correction file with 8 parity bytes a codeword.
use Rattle.std.specs.Prelude.{ℕ, ◌≡◌, ◌≢◌, List, ◌++◌, codes, Some, None}
use Rattle.std.specs.Int.{to_le_bytes, w32, w64}
use Rattle.md5.specs.Md5.{md5}
use Rattle.rs01_lists.specs.Bytes.{zeros}
use Rattle.rs01_outside.specs.Files.{Files}

-- the bytes of the image
abbrev pub sample_image : List ℕ
sample_image = zeros 20480

-- the checksum of a sector of zeros, 0xf1e8ba9e, lowest byte first, and that of each of the ten
abbrev pub zero_sum : List ℕ
zero_sum = to_le_bytes w32 0xf1e8ba9e

abbrev pub sample_sums : List ℕ
sample_sums =
    zero_sum ++ (zero_sum ++ (zero_sum ++ (zero_sum ++ (zero_sum
    ++ (zero_sum ++ (zero_sum ++ (zero_sum ++ (zero_sum ++ zero_sum))))))))

-- what stands after the header: the checksums, and the parity of 2048 codewords of zeros
abbrev pub sample_body : List ℕ
sample_body = sample_sums ++ zeros 16384

-- the sectors, the data and parity bytes of a codeword, the version that made it and the one that is needed, and the sector of
-- the fingerprint
abbrev pub sample_numbers : List ℕ
sample_numbers =
    to_le_bytes w64 10 ++ (to_le_bytes w32 247 ++ (to_le_bytes w32 8 ++ (to_le_bytes w32 1 ++ (to_le_bytes w32 1 ++ to_le_bytes w32 9))))

-- 20 reserved bytes, the bytes of the last sector, and 3976 reserved bytes
abbrev pub sample_end : List ℕ
sample_end = zeros 20 ++ (to_le_bytes w32 2048 ++ zeros 3976)

-- the digests of a sector, of the image and of what stands after the header
abbrev pub sample_digests : List ℕ
sample_digests = md5 (zeros 2048) ++ (md5 sample_image ++ md5 sample_body)

-- texts and flags
abbrev pub sample_texts : List ℕ
sample_texts = codes "*dvdisaster*RS01" ++ to_le_bytes w32 0

-- the header
abbrev pub sample_header : List ℕ
sample_header = sample_texts ++ (sample_digests ++ (sample_numbers ++ sample_end))

-- the whole error correction file
abbrev pub sample_ecc : List ℕ
sample_ecc = sample_header ++ sample_body

-- the two files stand under their names, and no other one does
pub record HoldsSample (files : Files) : Type 0 where
  pub image : files (codes "disc.iso") ≡ Some sample_image
  pub ecc : files (codes "disc.ecc") ≡ Some sample_ecc
  pub rest : (name : List ℕ) → name ≢ codes "disc.iso" → name ≢ codes "disc.ecc" → files name ≡ None
