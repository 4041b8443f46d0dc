-- What repairing gives where the error correction file is intact, and no sector that was altered has its recorded
-- checksum. c is what the error correction file says, and the image's file is the list y now.
use Rattle.std.specs.Prelude.{ℕ, ◌≡◌, ◌<◌, ◌*◌, ◌&&◌, Bool, false, not, List, [], filter, Some, Result, IfOk, IsOkAnd, IsSomeAnd, IsTrue}
use Rattle.std.specs.List.{range_with_len}
use Rattle.rs01_layers.specs.Sectors.{length_of}
use Rattle.rs01_lists.specs.Bytes.{part}
use Rattle.rs01_outside.specs.DeskState.{DeskState}
use Rattle.rs01_outside.specs.Files.{Files}
use Rattle.rs01_ecchead.specs.Opened.{Opened}
use Rattle.rs01_report.specs.declared.reports.FixReport.{FixReport}
use Rattle.rs01_repair.specs.Intact.{HasTheOthers, Protects, is_beyond, is_gone}
use Rattle.rs01_fix.specs.Answer.{MayStand, Repaired, fix_answer}
use Rattle.rs01_fix.specs.declared.refusal.FixRefusal.{FixRefusal}

-- the bytes of a sector are the image's
abbrev pub IsSectorOf : List ℕ → Opened → List ℕ → ℕ → Type 0
IsSectorOf image c file s =
    part file (2048 * s) (length_of c.fields.sectors c.fields.last_bytes s) ≡ part image (2048 * s) (length_of c.fields.sectors c.fields.last_bytes s)

-- every layer that isn't beyond is the image's again
abbrev pub SectorsComeBack : List ℕ → Opened → List ℕ → Repaired → Type 0
SectorsComeBack image c y repaired = (s : ℕ) → s < c.fields.sectors → is_beyond c y s ≡ false → IsSectorOf image c repaired.file s

-- and exactly the erased sectors of the other layers are lost
pub record ComesBack (image : List ℕ) (c : Opened) (y : List ℕ) (repaired : Repaired) : Type 0 where
  pub sectors : SectorsComeBack image c y repaired
  pub restored : repaired.report.restored ≡ filter (λ s. is_gone c y s && not (is_beyond c y s)) (range_with_len 0 c.fields.sectors)
  pub lost : repaired.report.lost ≡ filter (λ s. is_gone c y s && is_beyond c y s) (range_with_len 0 c.fields.sectors)
  pub strange : repaired.report.strange ≡ []

-- that is so for every image, redundancy and damage
abbrev pub ImagesComeBack : Type 0
ImagesComeBack = (image file y : List ℕ) (r : ℕ) (c : Opened) (cut : Bool) → Protects file image r c → HasTheOthers image c y
    → IsOkAnd (fix_answer (Some file) (Some y) cut) (ComesBack image c y)

-- a file z that may stand after an interrupted repair of y, in which each sector that isn't erased is the image's too: a
-- repair of z gives back the layers that the repair of y would have given back
abbrev pub RepairGoesOn : Type 0
RepairGoesOn = (image file y z : List ℕ) (r : ℕ) (c : Opened) (cut again : Bool) → Protects file image r c
    → HasTheOthers image c y → HasTheOthers image c z → MayStand (fix_answer (Some file) (Some y) cut) (Some y) (Some z)
    → IsOkAnd (fix_answer (Some file) (Some z) again) (SectorsComeBack image c y)

-- it is so of the image under one name, which was repaired by the error correction file under another
abbrev pub GivesBack : (image ecc : List ℕ) → (old new : Files) → Result FixReport FixRefusal → Type 0
GivesBack image ecc old new result = (original file y : List ℕ) (r : ℕ) (c : Opened) → old ecc ≡ Some file → old image ≡ Some y
    → Protects file original r c → HasTheOthers original c y
    → IfOk result (λ told. IsSomeAnd (new image) (λ now. ComesBack original c y (record { file = now; report = told })))

-- where the desk tells its files
abbrev pub BringsBack : (image ecc : List ℕ) → (old new : DeskState) → Result FixReport FixRefusal → Type 0
BringsBack image ecc old new result = IsTrue old.tells → GivesBack image ecc old.files new.files result
