-- The error correction file of an image: a header, the checksum of each sector, and the parity of each layer.
-- The image is a list of bytes, and r is the number of parity bytes of a codeword.
use Rattle.std.specs.Prelude.{ℕ, ◌-◌, List, ◌++◌, length, min}
use Rattle.std.specs.List.{flat_map, range_with_len}
use Rattle.std.specs.Int.{to_le_bytes, w32}
use Rattle.md5.specs.Md5.{md5}
use Rattle.rs01_poly.specs.Code.{encode}
use Rattle.rs01_layers.specs.Sectors.{sectors_of, last_of, sector}
use Rattle.rs01_layers.specs.Layout.{layers_of}
use Rattle.rs01_layers.specs.Layer.{layer, column}
use Rattle.rs01_sums.specs.Crc.{crc}
use Rattle.rs01_ecchead.specs.Header.{Fields, head_bytes}

-- the checksums of all sectors in rising order, 4 bytes each
unfoldable pub sum_bytes : List ℕ → List ℕ
sum_bytes image = flat_map (λ s. to_le_bytes w32 (crc (sector image s))) (range_with_len 0 (sectors_of (length image)))

-- the parity of a layer, by rising codeword
unfoldable pub layer_parity : List ℕ → ℕ → ℕ → List ℕ
layer_parity image r l = flat_map (λ b. encode (column (layer image r l) b)) (range_with_len 0 2048)

-- the parity of all layers in rising order
unfoldable pub parity_bytes : List ℕ → ℕ → List ℕ
parity_bytes image r = flat_map (layer_parity image r) (range_with_len 0 (layers_of (sectors_of (length image)) r))

-- all that stands after the header
unfoldable pub body : List ℕ → ℕ → List ℕ
body image r = sum_bytes image ++ parity_bytes image r

-- the sector whose digest is the image's fingerprint
abbrev pub mark_sector_of : List ℕ → ℕ
mark_sector_of image = min 16 (sectors_of (length image) - 1)

-- what the header of a new file tells
unfoldable pub head_fields : List ℕ → ℕ → Fields
head_fields image r = record {
  flags = 0;
  fingerprint = md5 (sector image (mark_sector_of image));
  image_sum = md5 image;
  body_sum = md5 (body image r);
  sectors = sectors_of (length image);
  parity = r;
  creator = 1;
  needed = 1;
  mark_sector = mark_sector_of image;
  last_bytes = last_of (length image);
}

-- the whole file
unfoldable pub ecc_file : List ℕ → ℕ → List ℕ
ecc_file image r = head_bytes (head_fields image r) ++ body image r
