-- The work of `create`.
use Rattle.std.specs.Prelude.{ℕ, ◌≡◌, ◌⊎◌, false, List, Some, None}
use Rattle.rs01_outside.specs.Files.{Becomes, SameElsewhere, bytes_of}
use Rattle.rs01_ecchead.specs.EccFile.{ecc_file}
use Rattle.rs01_create.specs.Answer.{LeavesUnder}
use Rattle.rs01_create.specs.Create.{refusal_of, report_of}
use Rattle.rs01_report.specs.Texts.{create_lines}
use Rattle.rs01_top.specs.Faults.{create_fault}
use Rattle.rs01_top.specs.Outside.{Outside}
use Rattle.rs01_top.specs.Work.{Work, fault_if}

-- the error correction file of the image stands under its name, its report is put, and the status is 0
pub record IsCreated (image ecc : List ℕ) (r : ℕ) (old new : Outside) (put : List ℕ) (status : ℕ) : Type 0 where
  pub files : Becomes ecc (ecc_file (bytes_of old.files image) r) old.files new.files
  pub lines : put ≡ create_lines (report_of (bytes_of old.files image) r) ecc
  pub number : status ≡ 0

-- the image isn't refused, and its file stands whole
pub record IsWhole (image ecc : List ℕ) (r : ℕ) (old new : Outside) : Type 0 where
  pub accepted : refusal_of (old.files image) ≡ None
  pub whole : new.files ecc ≡ Some (ecc_file (bytes_of old.files image) r)

-- no other file has changed, and the one under ECC is as before, where the image isn't refused also begun or whole
pub record MayStandAfterCreate (image ecc : List ℕ) (r : ℕ) (old new : Outside) : Type 0 where
  pub elsewhere : SameElsewhere ecc old.files new.files
  pub left : LeavesUnder image ecc r old.files new.files ⊎ IsWhole image ecc r old new

abbrev pub create_work : (image ecc : List ℕ) → ℕ → Work
create_work image ecc r = record {
  refusal = λ found. fault_if create_fault (refusal_of (found.files image));
  done = IsCreated image ecc r;
  may_stand = MayStandAfterCreate image ecc r;
  keeps = λ old new. SameElsewhere ecc old.desk.files new.desk.files;
  only_reads = false;
  uses_drives = false;
  sized_by_drives = false;
}
