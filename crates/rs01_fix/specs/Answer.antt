-- What is answered for an error correction file and an image that may not be there.
use Rattle.std.specs.Prelude.{ℕ, ◌≡◌, Bool, List, [], Option, Some, None, Result, Ok, Err, IsSomeAnd}
use Rattle.std.specs.Option.{unwrap_or}
use Rattle.rs01_ecchead.specs.Opened.{Opened, opened_file}
use Rattle.rs01_ecchead.specs.declared.opened.Which.TheVariants as which
use Rattle.rs01_ecchead.specs.declared.opened.EccRefusal.{EccRefusal}
use Rattle.rs01_ecchead.specs.declared.opened.EccRefusal.TheVariants as ecc
use Rattle.rs01_report.specs.declared.reports.FixReport.{FixReport}
use Rattle.rs01_fix.specs.Between.{IsBetween}
use Rattle.rs01_fix.specs.Repair.{fixed, report_of}
use Rattle.rs01_fix.specs.declared.refusal.FixRefusal.{FixRefusal}
use Rattle.rs01_fix.specs.declared.refusal.FixRefusal.TheVariants.{NoFile, Head, Size, Body, ReadFault, OutOfMemory}

-- the refusal of an error correction file, as it is told here
abbrev pub refusal_of : EccRefusal → FixRefusal
refusal_of ecc.NoFile = NoFile which.Ecc
refusal_of (ecc.Head why) = Head why
refusal_of (ecc.Size have want) = Size have want
refusal_of (ecc.Body have want) = Body have want
refusal_of ecc.ReadFault = ReadFault
refusal_of ecc.OutOfMemory = OutOfMemory

-- the image file afterwards, and what is told of it
pub record Repaired : Type 0 where
  pub file : List ℕ
  pub report : FixReport

-- an image file that is repaired by what an error correction file says
unfoldable pub repaired : Opened → List ℕ → Bool → Repaired
repaired c y cut = record { file = fixed c y cut; report = report_of c y cut }

-- the refusal of the error correction file, else that of the image, else the repaired image
unfoldable pub answer_with : Result Opened EccRefusal → Option (List ℕ) → Bool → Result Repaired FixRefusal
answer_with (Err why) image cut = Err (refusal_of why)
answer_with (Ok c) None cut = Err (NoFile which.Image)
answer_with (Ok c) (Some y) cut = Ok (repaired c y cut)

abbrev pub fix_answer : (ecc image : Option (List ℕ)) → Bool → Result Repaired FixRefusal
fix_answer ecc image cut = answer_with (opened_file ecc) image cut

-- what may stand under the image's name after any answer: a file between the old one and the fixed one, and the old one
-- where a refusal of the files keeps it from being repaired
abbrev pub MayStand : Result Repaired FixRefusal → Option (List ℕ) → Option (List ℕ) → Type 0
MayStand (Err why) old new = new ≡ old
MayStand (Ok fixed) old new = IsSomeAnd new (IsBetween (unwrap_or old []) fixed.file)
