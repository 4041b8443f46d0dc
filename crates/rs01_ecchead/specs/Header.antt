-- The header of an error correction file: 4096 bytes in which numbers stand with their lowest byte first.
use Rattle.std.specs.Prelude.{ℕ, ◌≡◌, ◌<◌, ◌≤◌, ◌^◌, length, ◌+◌, ◌-◌, ◌==◌, List, ◌++◌, codes, Bool, not, ◌||◌, nat_lt, if◌then◌else◌, Result, Ok, Err}
use Rattle.std.specs.Int.{to_le_bytes, from_le_bytes, w32, w64}
use Rattle.std.specs.Str.{bytes_eq}
use Rattle.rs01_lists.specs.Bytes.{part, zeros}
use Rattle.rs01_ecchead.specs.declared.head.HeadRefusal.{HeadRefusal}
use Rattle.rs01_ecchead.specs.declared.head.HeadRefusal.TheVariants.{Cookie, Method, Version, Sectors, Parity, LastBytes}

-- what a header tells
pub record Fields : Type 0 where
  pub flags : ℕ
  pub fingerprint : List ℕ
  pub image_sum : List ℕ
  pub body_sum : List ℕ
  pub sectors : ℕ
  pub parity : ℕ
  pub creator : ℕ
  pub needed : ℕ
  pub mark_sector : ℕ
  pub last_bytes : ℕ

-- fields that a header can hold: digests of 16 bytes, numbers of 32 bits, and the ranges that a reader asks for
pub record AreFields (f : Fields) : Type 0 where
  pub flags : f.flags < 2 ^ 32
  pub fingerprint : length f.fingerprint ≡ 16
  pub image_sum : length f.image_sum ≡ 16
  pub body_sum : length f.body_sum ≡ 16
  pub some_sectors : 1 ≤ f.sectors
  pub few_sectors : f.sectors ≤ 16777215
  pub least_parity : 8 ≤ f.parity
  pub most_parity : f.parity ≤ 100
  pub creator : f.creator < 2 ^ 32
  pub needed : f.needed ≤ 1
  pub mark_sector : f.mark_sector < 2 ^ 32
  pub some_last : 1 ≤ f.last_bytes
  pub last_fits : f.last_bytes ≤ 2048

-- bytes put at a place: where all from there on was zeros, they come behind what stands before
abbrev pub Puts : ℕ → List ℕ → List ℕ → List ℕ → Type 0
Puts at bytes old new = (before : List ℕ) (left : ℕ) → length before ≡ at → old ≡ before ++ zeros left → new ≡ (before ++ bytes) ++ zeros (left - length bytes)

-- the texts at the head of the file, the flags and the three digests: 68 bytes
unfoldable pub front_bytes : Fields → List ℕ
front_bytes f = codes "*dvdisaster*RS01" ++ (to_le_bytes w32 f.flags ++ (f.fingerprint ++ (f.image_sum ++ f.body_sum)))

-- the numbers of sectors, data and parity bytes, the two versions and the fingerprint sector: 28 bytes
unfoldable pub number_bytes : Fields → List ℕ
number_bytes f =
    to_le_bytes w64 f.sectors ++ (to_le_bytes w32 (255 - f.parity) ++ (to_le_bytes w32 f.parity
    ++ (to_le_bytes w32 f.creator ++ (to_le_bytes w32 f.needed ++ to_le_bytes w32 f.mark_sector))))

-- 20 reserved bytes, the bytes of the last sector, and 3976 reserved bytes
unfoldable pub end_bytes : Fields → List ℕ
end_bytes f = zeros 20 ++ (to_le_bytes w32 f.last_bytes ++ zeros 3976)

-- the 4096 bytes of a header
unfoldable pub head_bytes : Fields → List ℕ
head_bytes f = front_bytes f ++ (number_bytes f ++ end_bytes f)

-- the number in the 4 bytes from a place on
abbrev pub number_at : List ℕ → ℕ → ℕ
number_at bytes from = from_le_bytes w32 (part bytes from 4)

-- the number in the 8 bytes from a place on
abbrev pub wide_number_at : List ℕ → ℕ → ℕ
wide_number_at bytes from = from_le_bytes w64 (part bytes from 8)

-- the fields as they stand, where 0 bytes in the last sector stand for 2048
unfoldable pub fields_at : List ℕ → Fields
fields_at bytes = record {
  flags = number_at bytes 16;
  fingerprint = part bytes 20 16;
  image_sum = part bytes 36 16;
  body_sum = part bytes 52 16;
  sectors = wide_number_at bytes 68;
  parity = number_at bytes 80;
  creator = number_at bytes 84;
  needed = number_at bytes 88;
  mark_sector = number_at bytes 92;
  last_bytes = if number_at bytes 116 == 0 then 2048 else number_at bytes 116;
}

-- the first refusal that fits, else the fields
unfoldable pub judged : (cookie method : Bool) (needed sectors data_bytes parity last_bytes : ℕ) → Fields → Result Fields HeadRefusal
judged cookie method needed sectors data_bytes parity last_bytes fields =
    if not cookie then Err Cookie
    else if not method then Err Method
    else if nat_lt 1 needed then Err Version
    else if (sectors == 0) || nat_lt 16777215 sectors then Err Sectors
    else if nat_lt parity 8 || nat_lt 100 parity || not (data_bytes + parity == 255) then Err Parity
    else if nat_lt 2048 last_bytes then Err LastBytes
    else Ok fields

-- what a header says
unfoldable pub head_of : List ℕ → Result Fields HeadRefusal
head_of bytes =
    judged (bytes_eq (part bytes 0 12) (codes "*dvdisaster*")) (bytes_eq (part bytes 12 4) (codes "RS01"))
    (number_at bytes 88) (wide_number_at bytes 68) (number_at bytes 76) (number_at bytes 80) (number_at bytes 116) (fields_at bytes)

-- fields are read as they were written
abbrev pub ReadsBack : Type 0
ReadsBack = (f : Fields) → AreFields f → head_of (head_bytes f) ≡ Ok f
