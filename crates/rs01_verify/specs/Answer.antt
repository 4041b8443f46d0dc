-- What is answered for an error correction file and an image that may not be there.
use Rattle.std.specs.Prelude.{ℕ, ◌≡◌, List, Option, Some, None, Result, Ok, Err}
use Rattle.rs01_ecchead.specs.Opened.{Opened, opened_file}
use Rattle.rs01_ecchead.specs.declared.opened.Which.TheVariants as which
use Rattle.rs01_ecchead.specs.declared.opened.EccRefusal.{EccRefusal}
use Rattle.rs01_report.specs.declared.reports.VerifyReport.{VerifyReport}
use Rattle.rs01_verify.specs.Refusal.{IsOfFiles, refusal_of}
use Rattle.rs01_verify.specs.Report.{report_of}
use Rattle.rs01_verify.specs.declared.refusal.VerifyRefusal.{VerifyRefusal}
use Rattle.rs01_verify.specs.declared.refusal.VerifyRefusal.TheVariants.{NoFile}

-- the refusal of the error correction file, else that of the image, else the report
unfoldable pub answer_with : Result Opened EccRefusal → Option (List ℕ) → Result VerifyReport VerifyRefusal
answer_with (Err why) image = Err (refusal_of why)
answer_with (Ok c) None = Err (NoFile which.Image)
answer_with (Ok c) (Some y) = Ok (report_of c y)

abbrev pub verify_answer : (ecc image : Option (List ℕ)) → Result VerifyReport VerifyRefusal
verify_answer ecc image = answer_with (opened_file ecc) image

-- a report is the one of the files, and so is a refusal that comes from them
abbrev pub IsAnswerOf : (ecc image : Option (List ℕ)) → Result VerifyReport VerifyRefusal → Type 0
IsAnswerOf ecc image (Ok report) = verify_answer ecc image ≡ Ok report
IsAnswerOf ecc image (Err why) = IsOfFiles why → verify_answer ecc image ≡ Err why
