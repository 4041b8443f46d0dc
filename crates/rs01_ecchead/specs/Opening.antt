-- What opening a file answers.
use Rattle.std.specs.Prelude.{ℕ, ◌≡◌, ◌≢◌, List, [], length, take, drop, false, true, Option, Result, Ok, Err}
use Rattle.std.specs.Option.{unwrap_or}
use Rattle.std.specs.Str.{bytes_eq}
use Rattle.md5.specs.Md5.{md5}
use Rattle.rs01_layers.specs.Layout.{file_size}
use Rattle.rs01_layers.specs.declared.shape.Shape.{Shape}
use Rattle.rs01_ecchead.specs.Head.{fields_of}
use Rattle.rs01_ecchead.specs.Header.{head_of}
use Rattle.rs01_ecchead.specs.Opened.{IsOfFile, opened_as, opened_file}
use Rattle.rs01_ecchead.specs.Recorded.{sums_in}
use Rattle.rs01_ecchead.specs.declared.head.Head.{Head}
use Rattle.rs01_ecchead.specs.declared.opened.Ecc.{Ecc}
use Rattle.rs01_ecchead.specs.declared.opening.Body.{Body}
use Rattle.rs01_ecchead.specs.declared.opened.EccRefusal.{EccRefusal}
use Rattle.rs01_ecchead.specs.declared.opened.EccRefusal.TheVariants as ecc

-- what the file says, or its refusal
abbrev pub Opens : Option (List ℕ) → Result Ecc EccRefusal → Type 0
Opens file (Ok opened) = opened_file file ≡ Ok (opened_as opened (unwrap_or file []))
Opens file (Err why) = IsOfFile why → opened_file file ≡ Err why

-- the header of a file that has one
abbrev pub ReadsHeader : List ℕ → Result Head EccRefusal → Type 0
ReadsHeader file (Ok head) = head_of (take 4096 file) ≡ Ok (fields_of head)
ReadsHeader file (Err why) = (refused : _) → why ≡ ecc.Head refused → head_of (take 4096 file) ≡ Err refused

-- a refusal that comes from reading a header
abbrev pub IsOfHeader : EccRefusal → Type 0
IsOfHeader ecc.NoFile = ⊥
IsOfHeader (ecc.Head why) = Unit {0}
IsOfHeader (ecc.Size have want) = ⊥
IsOfHeader (ecc.Body have want) = ⊥
IsOfHeader ecc.ReadFault = Unit {0}
IsOfHeader ecc.OutOfMemory = ⊥

-- what stands behind the header of a file that is as long as its shape asks for
pub record IsBody (file : List ℕ) (n : ℕ) (body : Body) : Type 0 where
  pub sums : body.sums.list ≡ sums_in file n
  pub digest : body.digest ≡ md5 (drop 4096 file)

abbrev pub IsBodyOf : List ℕ → Shape → Body → Type 0
IsBodyOf file shape body = length file ≡ file_size shape.sectors shape.parity → IsBody file shape.sectors body

-- it is kept beside the header where its digest is the recorded one, and refused else
pub record IsKept (head : Head) (body : Body) (kept : Ecc) : Type 0 where
  pub agrees : bytes_eq body.digest head.body_sum ≡ true
  pub same_head : kept.head ≡ head
  pub same_sums : kept.sums ≡ body.sums

abbrev pub IsJudged : Head → Body → Result Ecc EccRefusal → Type 0
IsJudged head body (Ok kept) = IsKept head body kept
IsJudged head body (Err why) = (bytes_eq body.digest head.body_sum ≡ false) × (why ≡ ecc.Body body.digest head.body_sum)

-- a refusal that tells two values tells different ones
abbrev pub TellsTwo : EccRefusal → Type 0
TellsTwo ecc.NoFile = Unit {0}
TellsTwo (ecc.Head why) = Unit {0}
TellsTwo (ecc.Size have want) = have ≢ want
TellsTwo (ecc.Body have want) = have ≢ want
TellsTwo ecc.ReadFault = Unit {0}
TellsTwo ecc.OutOfMemory = Unit {0}
