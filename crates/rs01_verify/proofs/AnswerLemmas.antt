-- What is answered, from what was found of the two files.
use Rattle.std.proofs.Common.{◌≡◌, ℕ, List, [], length, sym, ap, ◌∙◌}
use Rattle.std.specs.Prelude.{Option, Some, None, Result, Ok, Err}
use Rattle.std.specs.Option.{option_map, unwrap_or}
use Rattle.rs01_outside.specs.Files.{Files, bytes_of}
use Rattle.rs01_ecchead.specs.Opened.{IsOfFile, Opened, opened_file}
use Rattle.rs01_ecchead.specs.Opening.{Opens}
use Rattle.rs01_ecchead.specs.declared.opened.EccRefusal.{EccRefusal}
use Rattle.rs01_ecchead.specs.declared.opened.EccRefusal.TheVariants as ecc
use Rattle.rs01_ecchead.specs.declared.opened.Which.TheVariants.{Image}
use Rattle.rs01_report.specs.declared.reports.VerifyReport.{VerifyReport}
use Rattle.rs01_verify.specs.Report.{report_of}
use Rattle.rs01_verify.specs.Answer.{IsAnswerOf, answer_with, verify_answer}
use Rattle.rs01_verify.specs.Refusal.{IsOfFiles, refusal_of}
use Rattle.rs01_verify.specs.declared.refusal.VerifyRefusal.{VerifyRefusal}
use Rattle.rs01_verify.specs.declared.refusal.VerifyRefusal.TheVariants.{NoFile}

abbrev Answer : Type 0
Answer = Result VerifyReport VerifyRefusal

-- a refusal that comes from the files, where the error correction file was refused
of_file : (why : EccRefusal) → IsOfFiles (refusal_of why) → IsOfFile why
of_file ecc.NoFile of = tt
of_file (ecc.Head w) of = tt
of_file (ecc.Size have want) of = tt
of_file (ecc.Body have want) of = tt
of_file ecc.ReadFault of = absurd of
of_file ecc.OutOfMemory of = absurd of

refused_with : (file image : Option (List ℕ)) (why : EccRefusal) → opened_file file ≡ Err why → verify_answer file image ≡ Err (refusal_of why)
unfolding answer_with
refused_with file image why opened = ap (λ (o : Result Opened EccRefusal). answer_with o image) opened

-- the error correction file isn't opened
pub by_ecc : (file image : Option (List ℕ)) (answer : Answer) (told : VerifyRefusal) (why : EccRefusal) → answer ≡ Err told → told ≡ refusal_of why
    → Opens file (Err why) → IsAnswerOf file image answer
by_ecc file image answer told why is from opens = rw (is, from) (λ of. refused_with file image why (opens (of_file why of)))

-- the image isn't there
pub by_no_image : (file image : Option (List ℕ)) (c : Opened) (size : Option ℕ) → opened_file file ≡ Ok c → ((n : ℕ) → size ≡ Some n → ⊥)
    → size ≡ option_map length image
    → verify_answer file image ≡ Err (NoFile Image)
unfolding answer_with
by_no_image file None c size opened none e = ap (λ (o : Result Opened EccRefusal). answer_with o None) opened
by_no_image file (Some y) c size opened none e = absurd (none (length y) e)

-- both are there
pub by_report : (file image : Option (List ℕ)) (c : Opened) (n : ℕ) (report : VerifyReport) → opened_file file ≡ Ok c
    → Some n ≡ option_map length image → report ≡ report_of c (unwrap_or image []) → verify_answer file image ≡ Ok report
unfolding answer_with
by_report file None c n report opened e r = cc
by_report file (Some y) c n report opened e r =
    ap (λ (o : Result Opened EccRefusal). answer_with o (Some y)) opened ∙ ap (λ (v : VerifyReport). let a : Answer = Ok v in a) (sym r)

-- what a file's size says, when the files were still the same
size_is : (o : Option (List ℕ)) (n : ℕ) → Some n ≡ option_map length o → n ≡ length (unwrap_or o [])
size_is None n e = cc
size_is (Some file) n e = cc

pub size_then : (f0 f1 : Files) (name : List ℕ) (n : ℕ) → f1 ≡ f0 → Some n ≡ option_map length (f0 name) → n ≡ length (bytes_of f1 name)
size_then f0 f1 name n same e = size_is (f0 name) n e ∙ ap (λ (f : Files). length (bytes_of f name)) (sym same)
