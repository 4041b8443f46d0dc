-- What is read again in the error correction file of an image.
use Rattle.std.specs.Prelude.{ℕ, ◌≡◌, ◌<◌, ◌≤◌, List, length, map, IsOkAnd}
use Rattle.std.specs.List.{range_with_len}
use Rattle.rs01_poly.specs.Code.{encode}
use Rattle.rs01_layers.specs.Sectors.{sector, sectors_of}
use Rattle.rs01_layers.specs.Layout.{layers_of}
use Rattle.rs01_layers.specs.Layer.{column, layer}
use Rattle.rs01_sums.specs.Crc.{crc}
use Rattle.rs01_ecchead.specs.EccFile.{ecc_file, head_fields}
use Rattle.rs01_ecchead.specs.Opened.{Opened, opened}

-- an opened file says the fields, the checksums and the parity of this image
pub record IsOfImage (image : List ℕ) (r : ℕ) (c : Opened) : Type 0 where
  pub fields : c.fields ≡ head_fields image r
  pub sums : c.sums ≡ map (λ s. crc (sector image s)) (range_with_len 0 (sectors_of (length image)))
  pub parity : (l b : ℕ) → l < layers_of (sectors_of (length image)) r → b < 2048
      → c.parity l b ≡ encode (column (layer image r l) b)

-- the file of any image that has one is
abbrev pub AreReadAgain : Type 0
AreReadAgain = (image : List ℕ) (r : ℕ) → 1 ≤ length image → sectors_of (length image) ≤ 16777215 → 8 ≤ r → r ≤ 100
    → IsOkAnd (opened (ecc_file image r)) (IsOfImage image r)
