-- What it takes that an image comes back: an intact error correction file, and no altered sector that is taken for sound.
-- c is what the error correction file says, and the image's file is the list y now.
use Rattle.std.specs.Prelude.{ℕ, ◌≡◌, ◌≤◌, ◌<◌, ◌^◌, Bool, false, nat_lt, All, List, length, Ok}
use Rattle.rs01_layers.specs.Sectors.{sector, sectors_of}
use Rattle.rs01_layers.specs.Layout.{layer_of}
use Rattle.rs01_ecchead.specs.EccFile.{ecc_file}
use Rattle.rs01_ecchead.specs.Erased.{block_in, count_in, is_erased, known_by}
use Rattle.rs01_ecchead.specs.Opened.{Opened, opened}

-- an image that has an error correction file with r parity bytes a codeword
pub record IsProtected (image : List ℕ) (r : ℕ) : Type 0 where
  pub some_bytes : 1 ≤ length image
  pub few_sectors : sectors_of (length image) ≤ 16777215
  pub least_parity : 8 ≤ r
  pub most_parity : r ≤ 100
  pub bytes : All (λ b. b < 2 ^ 8) image

-- an error correction file that is as it was made
abbrev pub IsIntact : List ℕ → List ℕ → ℕ → Type 0
IsIntact file image r = file ≡ ecc_file image r

-- an intact error correction file of an image, and what it says
pub record Protects (file image : List ℕ) (r : ℕ) (c : Opened) : Type 0 where
  pub proper : IsProtected image r
  pub intact : IsIntact file image r
  pub says : opened file ≡ Ok c

-- whether a sector is erased
abbrev pub is_gone : Opened → List ℕ → ℕ → Bool
is_gone c y s = is_erased (known_by c) y s

-- how many sectors of a layer are erased
abbrev pub gone_in : Opened → List ℕ → ℕ → ℕ
gone_in c y l = count_in c.fields.sectors c.fields.parity (is_gone c y) l

-- whether a sector's layer has more erased sectors than a codeword has parity bytes
abbrev pub is_beyond : Opened → List ℕ → ℕ → Bool
is_beyond c y s = nat_lt c.fields.parity (gone_in c y (layer_of c.fields.sectors c.fields.parity s))

-- each sector that isn't erased is the image's
abbrev pub HasTheOthers : List ℕ → Opened → List ℕ → Type 0
HasTheOthers image c y = (s : ℕ) → s < c.fields.sectors → is_gone c y s ≡ false → block_in (known_by c) y s ≡ sector image s
