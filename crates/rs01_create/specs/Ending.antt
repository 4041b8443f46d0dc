-- What ending a file by its header leaves.
use Rattle.std.specs.Prelude.{ℕ, ◌≡◌, IsTrue, List, ◌++◌, Option, Some, Result, Ok, Err}
use Rattle.md5.specs.Md5.{Holds, md5}
use Rattle.md5.specs.declared.Md5.{Md5}
use Rattle.rs01_lists.specs.Bytes.{zeros}
use Rattle.rs01_outside.specs.DeskState.{DeskState}
use Rattle.rs01_outside.specs.Files.{Becomes, Files}
use Rattle.rs01_ecchead.specs.EccFile.{body, ecc_file, head_fields}
use Rattle.rs01_ecchead.specs.Head.{fields_of}
use Rattle.rs01_ecchead.specs.Header.{head_bytes}
use Rattle.rs01_ecchead.specs.declared.head.Head.{Head}
use Rattle.rs01_report.specs.declared.reports.CreateReport.{CreateReport}
use Rattle.rs01_create.specs.Create.{report_of}
use Rattle.rs01_create.specs.Looking.{IsFoundOf}
use Rattle.rs01_create.specs.Unfinished.{IsUnfinished}
use Rattle.rs01_create.specs.declared.found.Found.{Found}

-- a head has the fields of an image's file, where this is the digest of its body
abbrev pub IsHeadOf : List ℕ → ℕ → List ℕ → Head → Type 0
IsHeadOf image r body_sum head = body_sum ≡ md5 (body image r) → fields_of head ≡ head_fields image r

-- what was found is an image's, and its whole body stands in the file behind zeros, and was added to a digest
pub record IsWhole (image : List ℕ) (found : Found) (hasher : Md5) (file : Option (List ℕ)) : Type 0 where
  pub found_is : IsFoundOf image found
  pub there : file ≡ Some (zeros 4096 ++ body image found.plan.shape.parity)
  pub held : Holds hasher (body image found.plan.shape.parity)

-- the image's file stands under the name and all others are as before, and the report is of this image; or the file isn't
-- finished
abbrev pub Ends : {E : Type 0} → (image : List ℕ) → ℕ → (ecc : List ℕ) → (old new : Files) → Result CreateReport E → Type 0
Ends image r ecc old new (Ok report) = Becomes ecc (ecc_file image r) old new × (report ≡ report_of image r)
Ends image r ecc old new (Err why) = (before : Option (List ℕ)) → IsUnfinished (head_bytes (head_fields image r)) before (new ecc)

-- the same on a desk that tells its files, of whatever image the body was whole
abbrev pub TellsEnd : {E : Type 0} → Found → Md5 → (ecc : List ℕ) → (old new : DeskState) → Result CreateReport E → Type 0
TellsEnd found hasher ecc old new result =
    IsTrue old.tells → (image : List ℕ) → IsWhole image found hasher (old.files ecc)
    → Ends image found.plan.shape.parity ecc old.files new.files result
