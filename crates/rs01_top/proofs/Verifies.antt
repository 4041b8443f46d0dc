-- What holds of a run that checks an image, by how the check and the last text ended.
use Rattle.std.proofs.Common.{◌≡◌, ◌&&◌, ◌==◌, ◌⊎◌, ℕ, List, [], refl, sym, subst, ap, ◌∙◌, inl, inr, arith, Bool, true, false, if◌then◌else◌, length}
use Rattle.std.specs.Prelude.{IsTrue, IsOkAnd, Some, Result, Ok, Err}
use Rattle.rs01_outside.proofs.States.{works-reads}
use Rattle.rs01_outside.specs.DeskState.{DeskState, OnlyReads}
use Rattle.rs01_outside.specs.SinkState.{SinkState}
use Rattle.rs01_report.specs.declared.faults.Fault.{Fault}
use Rattle.rs01_report.specs.declared.reports.VerifyReport.{VerifyReport}
use Rattle.rs01_report.specs.Faults.{fault_line, status_of}
use Rattle.rs01_report.specs.Texts.{verify_lines}
use Rattle.rs01_verify.specs.Answer.{IsAnswerOf, verify_answer}
use Rattle.rs01_verify.specs.Refusal.{is_read_fault}
use Rattle.rs01_verify.specs.declared.refusal.VerifyRefusal.{VerifyRefusal}
use Rattle.rs01_verify.specs.declared.refusal.VerifyRefusal.TheVariants.{NoFile, Head, Size, Body, ReadFault, OutOfMemory}
use Rattle.rs01_top.specs.Faults.{verify_fault}
use Rattle.rs01_top.specs.Outside.{told_by}
use Rattle.rs01_top.specs.Verify.{IsChecked, answer_to, checked_status, is_match, verify_work}
use Rattle.rs01_top.specs.Work.{fault_in}
use Rattle.rs01_top.specs.Run.{Ends, RunsAlone}
use Rattle.rs01_top.proofs.Alone.{done, out_of_memory, read_failed, refused}
use Rattle.rs01_top.proofs.Endings.{NotOfWords, some_same}
use Rattle.rs01_top.proofs.HeadFaults.{absent_is, head_is}

pub none_or_one : (b : Bool) (n : ℕ) → n ≡ (if b then 0 else 1) → (n ≡ 0) ⊎ (n ≡ 1)
none_or_one true n e = inl e
none_or_one false n e = inr e

checked_range : (report : VerifyReport) → (checked_status report ≡ 0) ⊎ (checked_status report ≡ 1)
checked_range report = none_or_one ((length report.missing == 0) && ((length report.altered == 0) && is_match report.image)) (checked_status report) refl

not_words : (why : VerifyRefusal) → status_of (verify_fault why) ≡ 2 → ⊥
not_words (NoFile which) e = omega (arith, absent_is which, e)
not_words (Head why) e = omega (arith, head_is why, e)
not_words (Size have want) e = omega arith
not_words (Body have want) e = omega arith
not_words ReadFault e = omega arith
not_words OutOfMemory e = omega arith

of_err : (r : Result VerifyReport VerifyRefusal) (why : Fault) → fault_in verify_fault r ≡ Some why → status_of why ≡ 2 → ⊥
of_err (Ok report) why e two = cc
of_err (Err x) why e two = not_words x (ap status_of (some_same (verify_fault x) why e) ∙ two)

not_of_words : (image ecc : List ℕ) → NotOfWords (verify_work image ecc)
not_of_words image ecc found why e two = of_err (answer_to image ecc found) why e two

-- the image was checked
pub checked : (image ecc : List ℕ) (old new : DeskState) (out out' : SinkState) (report : VerifyReport) (status : ℕ)
    → OnlyReads old new false
    → (IsTrue old.tells → verify_answer (old.files ecc) (old.files image) ≡ Ok report)
    → Ends (verify_lines report image) (checked_status report) out out' status
    → RunsAlone (verify_work image ecc) old new out out' status
checked image ecc old new out out' report status reads answer ends =
    done (verify_work image ecc) [] old new out out' (verify_lines report image) (checked_status report) status
    (not_of_words image ecc) refl (checked_range report) (works-reads [] old new false reads)
    (λ rack d. ap (λ (r : Result VerifyReport VerifyRefusal). fault_in verify_fault r) (answer d))
    (λ rack d. subst (λ (r : Result VerifyReport VerifyRefusal). IsOkAnd r (IsChecked image (told_by old rack) (told_by new rack) (verify_lines report image) (checked_status report)))
    (sym (answer d)) (record { files = reads.unchanged d; lines = refl; number = refl }))
    (record { stands = λ rack d. reads.unchanged d; keeps = λ rack out out'. reads.unchanged })
    ends

-- the files are refused
of_files : (image ecc : List ℕ) (old new : DeskState) (out out' : SinkState) (why : VerifyRefusal) (status : ℕ)
    → status_of (verify_fault why) ≡ 3 → OnlyReads old new false
    → (IsTrue old.tells → verify_answer (old.files ecc) (old.files image) ≡ Err why)
    → Ends (fault_line (verify_fault why)) (status_of (verify_fault why)) out out' status
    → RunsAlone (verify_work image ecc) old new out out' status
of_files image ecc old new out out' why status three reads answer ends =
    refused (verify_work image ecc) [] old new out out' (verify_fault why) status (not_of_words image ecc) three (works-reads [] old new false reads)
    (λ rack d. ap (λ (r : Result VerifyReport VerifyRefusal). fault_in verify_fault r) (answer d))
    (λ d. reads.unchanged d)
    (record { stands = λ rack d. reads.unchanged d; keeps = λ rack out out'. reads.unchanged })
    ends

pub not_checked : (image ecc : List ℕ) (old new : DeskState) (out out' : SinkState) (why : VerifyRefusal) (status : ℕ)
    → OnlyReads old new (is_read_fault {T = VerifyReport} (Err why))
    → (IsTrue old.tells → IsAnswerOf (old.files ecc) (old.files image) (Err why))
    → Ends (fault_line (verify_fault why)) (status_of (verify_fault why)) out out' status
    → RunsAlone (verify_work image ecc) old new out out' status
not_checked image ecc old new out out' (NoFile which) status reads answer ends =
    of_files image ecc old new out out' (NoFile which) status (absent_is which) reads (λ d. answer d tt) ends
not_checked image ecc old new out out' (Head why) status reads answer ends =
    of_files image ecc old new out out' (Head why) status (head_is why) reads (λ d. answer d tt) ends
not_checked image ecc old new out out' (Size have want) status reads answer ends =
    of_files image ecc old new out out' (Size have want) status refl reads (λ d. answer d tt) ends
not_checked image ecc old new out out' (Body have want) status reads answer ends =
    of_files image ecc old new out out' (Body have want) status refl reads (λ d. answer d tt) ends
not_checked image ecc old new out out' ReadFault status reads answer ends =
    read_failed (verify_work image ecc) [] old new out out' status (not_of_words image ecc) (works-reads [] old new true reads)
    (record { stands = λ rack d. reads.unchanged d; keeps = λ rack out out'. reads.unchanged }) ends
not_checked image ecc old new out out' OutOfMemory status reads answer ends =
    out_of_memory (verify_work image ecc) [] old new out out' status (not_of_words image ecc) (works-reads [] old new false reads)
    (record { stands = λ rack d. reads.unchanged d; keeps = λ rack out out'. reads.unchanged }) ends
