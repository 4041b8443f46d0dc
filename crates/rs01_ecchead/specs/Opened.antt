-- What a file says that is opened as an error correction file.
use Rattle.std.specs.Prelude.{ℕ, ◌==◌, List, length, take, drop, not, nat_lt, if◌then◌else◌, Bool, true, false, Option, Some, None, Result, Ok, Err}
use Rattle.std.specs.Str.{bytes_eq}
use Rattle.md5.specs.Md5.{md5}
use Rattle.rs01_layers.specs.Layout.{file_size}
use Rattle.rs01_ecchead.specs.Header.{Fields, head_of}
use Rattle.rs01_ecchead.specs.Head.{fields_of}
use Rattle.rs01_ecchead.specs.Recorded.{parity_in, sums_in}
use Rattle.rs01_ecchead.specs.declared.head.HeadRefusal.{HeadRefusal}
use Rattle.rs01_ecchead.specs.declared.opened.Ecc.{Ecc}
use Rattle.rs01_ecchead.specs.declared.opened.EccRefusal.{EccRefusal}
use Rattle.rs01_ecchead.specs.declared.opened.EccRefusal.TheVariants.{Body, Head, NoFile, OutOfMemory, ReadFault, Size}

-- what an opened file says
pub record Opened : Type 0 where
  -- the fields of its header
  pub fields : Fields
  -- the recorded checksum of each sector
  pub sums : List ℕ
  -- the recorded parity of codeword b of layer l
  pub parity : ℕ → ℕ → List ℕ

-- what a file says whose header has these fields
abbrev pub opened_by : Fields → List ℕ → Opened
opened_by fields file = record {
  fields = fields;
  sums = sums_in file fields.sectors;
  parity = parity_in file fields.sectors fields.parity;
}

-- the header's answer, and then the length and the body's digest that it asks for
unfoldable pub opened_with : Result Fields HeadRefusal → List ℕ → Result Opened EccRefusal
opened_with (Err why) file = Err (Head why)
opened_with (Ok fields) file =
    if not (length file == file_size fields.sectors fields.parity) then Err (Size (length file) (file_size fields.sectors fields.parity))
    else if not (bytes_eq (md5 (drop 4096 file)) fields.body_sum) then Err (Body (md5 (drop 4096 file)) fields.body_sum)
    else Ok (opened_by fields file)

-- the first refusal of a file that fits, else what the file says
unfoldable pub opened : List ℕ → Result Opened EccRefusal
opened file = if nat_lt (length file) 4096 then Err (Size (length file) 4096) else opened_with (head_of (take 4096 file)) file

-- the same of a file that may not be there
abbrev pub opened_file : Option (List ℕ) → Result Opened EccRefusal
opened_file None = Err NoFile
opened_file (Some file) = opened file

-- a refusal that comes from the file, and from no fault or want of memory
abbrev pub IsOfFile : EccRefusal → Type 0
IsOfFile NoFile = Unit {0}
IsOfFile (Head why) = Unit {0}
IsOfFile (Size have want) = Unit {0}
IsOfFile (Body have want) = Unit {0}
IsOfFile ReadFault = ⊥
IsOfFile OutOfMemory = ⊥

-- what a value tells that was made from a file
abbrev pub opened_as : Ecc → List ℕ → Opened
opened_as ecc file = record {
  fields = fields_of ecc.head;
  sums = ecc.sums.list;
  parity = parity_in file ecc.head.sectors ecc.head.parity;
}

-- whether a call ended since reading failed
abbrev pub is_read_fault : {T : Type 0} → Result T EccRefusal → Bool
is_read_fault (Ok value) = false
is_read_fault (Err NoFile) = false
is_read_fault (Err (Head why)) = false
is_read_fault (Err (Size have want)) = false
is_read_fault (Err (Body have want)) = false
is_read_fault (Err ReadFault) = true
is_read_fault (Err OutOfMemory) = false
