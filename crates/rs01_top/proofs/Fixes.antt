-- What holds of a run that repairs an image, by how the repair and the last text ended.
use Rattle.std.proofs.Common.{◌≡◌, ◌&&◌, ◌==◌, ◌⊎◌, ℕ, List, [], refl, sym, subst, ap, ◌∙◌, arith, Bool, true, false, length}
use Rattle.std.specs.Prelude.{IsTrue, IsOk, IsOkAnd, IsSomeAnd, Option, Some, None, Result, Ok, Err}
use Rattle.std.specs.Option.{unwrap_or}
use Rattle.rs01_outside.specs.DeskState.{DeskState, WorksOn}
use Rattle.rs01_outside.specs.Files.{Files}
use Rattle.rs01_outside.specs.SinkState.{SinkState}
use Rattle.rs01_fix.specs.Answer.{MayStand, Repaired, fix_answer}
use Rattle.rs01_fix.specs.Between.{IsBetween}
use Rattle.rs01_fix.specs.Fixing.{IsFix}
use Rattle.rs01_fix.specs.Outcome.{Refuses, Repairs, is_read_fault, is_write_fault}
use Rattle.rs01_fix.specs.declared.refusal.FixRefusal.{FixRefusal}
use Rattle.rs01_fix.specs.declared.refusal.FixRefusal.TheVariants.{NoFile, Head, Size, Body, ReadFault, WriteFault, OutOfMemory}
use Rattle.rs01_fix.proofs.CutLemmas.{fixed_between}
use Rattle.rs01_report.specs.declared.faults.Fault.{Fault}
use Rattle.rs01_report.specs.declared.reports.FixReport.{FixReport}
use Rattle.rs01_report.specs.Faults.{fault_line, status_of}
use Rattle.rs01_report.specs.Texts.{fix_lines}
use Rattle.rs01_top.specs.Faults.{fix_fault}
use Rattle.rs01_top.specs.Fix.{IsFixed, answer_to, fix_work, fixed_status}
use Rattle.rs01_top.specs.Outside.{Outside, told_by}
use Rattle.rs01_top.specs.Work.{fault_in}
use Rattle.rs01_top.specs.Run.{Ends, RunsAlone}
use Rattle.rs01_top.proofs.Alone.{MayLeave, done, out_of_memory, read_failed, refused, write_failed}
use Rattle.rs01_top.proofs.Endings.{NotOfWords, some_same}
use Rattle.rs01_top.proofs.HeadFaults.{absent_is, head_is}
use Rattle.rs01_top.proofs.Verifies.{none_or_one}

fixed_range : (report : FixReport) → (fixed_status report ≡ 0) ⊎ (fixed_status report ≡ 1)
fixed_range report = none_or_one ((length report.lost == 0) && (length report.strange == 0)) (fixed_status report) refl

not_words : (why : FixRefusal) → status_of (fix_fault why) ≡ 2 → ⊥
not_words (NoFile which) e = omega (arith, absent_is which, e)
not_words (Head why) e = omega (arith, head_is why, e)
not_words (Size have want) e = omega arith
not_words (Body have want) e = omega arith
not_words ReadFault e = omega arith
not_words WriteFault e = omega arith
not_words OutOfMemory e = omega arith

of_err : (r : Result Repaired FixRefusal) (why : Fault) → fault_in fix_fault r ≡ Some why → status_of why ≡ 2 → ⊥
of_err (Ok x) why e two = cc
of_err (Err x) why e two = not_words x (ap status_of (some_same (fix_fault x) why e) ∙ two)

not_of_words : (image ecc : List ℕ) (cut : Bool) → NotOfWords (fix_work image ecc cut)
not_of_words image ecc cut found why e two = of_err (answer_to image ecc cut found) why e two

stood : (r : Result Repaired FixRefusal) (image : List ℕ) (old new : Files) (report : FixReport)
    → IsOkAnd r (Repairs image old new report) → MayStand r (old image) (new image)
stood (Ok x) image old new report p =
    subst (λ (f : Option (List ℕ)). IsSomeAnd f (IsBetween (unwrap_or (old image) []) x.file)) (sym p.file.there) (fixed_between (unwrap_or (old image) []) x.file)
stood (Err why) image old new report p = absurd p

told_of : (r : Result Repaired FixRefusal) (image ecc : List ℕ) (old new : Outside) (report : FixReport)
    → IsOkAnd r (Repairs image old.files new.files report)
    → IsOkAnd r (IsFixed image old new (fix_lines report image) (fixed_status report))
told_of (Ok x) image ecc old new report p = record {
  files = p.file;
  lines = ap (λ (q : FixReport). fix_lines q image) p.report;
  number = ap fixed_status p.report;
}
told_of (Err why) image ecc old new report p = absurd p

not_refused : (P : Repaired → Type 0) (r : Result Repaired FixRefusal) → IsOkAnd r P → fault_in fix_fault r ≡ None
not_refused P (Ok x) p = refl
not_refused P (Err why) p = absurd p

accepted : (r : Result Repaired FixRefusal) → IsOk r → fault_in fix_fault r ≡ None
accepted (Ok x) ok = refl
accepted (Err why) ok = cc

-- the image was repaired
fixed : (image ecc : List ℕ) (cut : Bool) (old new : DeskState) (out out' : SinkState) (report : FixReport) (status : ℕ)
    → WorksOn image old new false false
    → (IsTrue old.tells → IsOkAnd (fix_answer (old.files ecc) (old.files image) cut) (Repairs image old.files new.files report))
    → Ends (fix_lines report image) (fixed_status report) out out' status
    → RunsAlone (fix_work image ecc cut) old new out out' status
fixed image ecc cut old new out out' report status works is ends =
    let answer = fix_answer (old.files ecc) (old.files image) cut in
    done (fix_work image ecc cut) image old new out out' (fix_lines report image) (fixed_status report) status
    (not_of_words image ecc cut) refl (fixed_range report) works
    (λ rack d. not_refused _ answer (is d))
    (λ rack d. told_of answer image ecc (told_by old rack) (told_by new rack) report (is d))
    (record { stands = λ rack d. record { elsewhere = works.elsewhere d; left = stood answer image old.files new.files report (is d) }; keeps = λ rack out out'. works.elsewhere })
    ends

stands : (image ecc : List ℕ) (cut : Bool) (old new : DeskState) (reading writing : Bool) (why : FixRefusal) → WorksOn image old new reading writing
    → (IsTrue old.tells → Refuses image ecc cut old.files new.files why)
    → MayLeave (fix_work image ecc cut) old new
stands image ecc cut old new reading writing why works is =
    record { stands = λ rack d. record { elsewhere = works.elsewhere d; left = (is d).left }; keeps = λ rack out out'. works.elsewhere }

-- the files are refused
of_files : (image ecc : List ℕ) (cut : Bool) (old new : DeskState) (out out' : SinkState) (why : FixRefusal) (status : ℕ)
    → status_of (fix_fault why) ≡ 3 → WorksOn image old new false false
    → (IsTrue old.tells → Refuses image ecc cut old.files new.files why)
    → (IsTrue old.tells → fix_answer (old.files ecc) (old.files image) cut ≡ Err why)
    → (IsTrue old.tells → new.files ≡ old.files)
    → Ends (fault_line (fix_fault why)) (status_of (fix_fault why)) out out' status
    → RunsAlone (fix_work image ecc cut) old new out out' status
of_files image ecc cut old new out out' why status three works is answer same ends =
    refused (fix_work image ecc cut) image old new out out' (fix_fault why) status (not_of_words image ecc cut) three works
    (λ rack d. ap (λ (r : Result Repaired FixRefusal). fault_in fix_fault r) (answer d))
    same (stands image ecc cut old new false false why works is) ends

not_fixed : (image ecc : List ℕ) (cut : Bool) (old new : DeskState) (out out' : SinkState) (why : FixRefusal) (status : ℕ)
    → WorksOn image old new (is_read_fault {T = FixReport} (Err why)) (is_write_fault {T = FixReport} (Err why))
    → (IsTrue old.tells → Refuses image ecc cut old.files new.files why)
    → (IsTrue old.tells → IsTrue (is_write_fault {T = FixReport} (Err why)) → IsOk (fix_answer (old.files ecc) (old.files image) cut))
    → Ends (fault_line (fix_fault why)) (status_of (fix_fault why)) out out' status
    → RunsAlone (fix_work image ecc cut) old new out out' status
not_fixed image ecc cut old new out out' (NoFile which) status works is last ends =
    of_files image ecc cut old new out out' (NoFile which) status (absent_is which) works is (λ d. (is d).refused tt) (λ d. (is d).unchanged tt) ends
not_fixed image ecc cut old new out out' (Head why) status works is last ends =
    of_files image ecc cut old new out out' (Head why) status (head_is why) works is (λ d. (is d).refused tt) (λ d. (is d).unchanged tt) ends
not_fixed image ecc cut old new out out' (Size have want) status works is last ends =
    of_files image ecc cut old new out out' (Size have want) status refl works is (λ d. (is d).refused tt) (λ d. (is d).unchanged tt) ends
not_fixed image ecc cut old new out out' (Body have want) status works is last ends =
    of_files image ecc cut old new out out' (Body have want) status refl works is (λ d. (is d).refused tt) (λ d. (is d).unchanged tt) ends
not_fixed image ecc cut old new out out' ReadFault status works is last ends =
    read_failed (fix_work image ecc cut) image old new out out' status (not_of_words image ecc cut) works
    (stands image ecc cut old new true false ReadFault works is) ends
not_fixed image ecc cut old new out out' WriteFault status works is last ends =
    write_failed (fix_work image ecc cut) image old new out out' status (not_of_words image ecc cut) refl works
    (λ rack d. accepted (fix_answer (old.files ecc) (old.files image) cut) (last d refl))
    (stands image ecc cut old new false true WriteFault works is) ends
not_fixed image ecc cut old new out out' OutOfMemory status works is last ends =
    out_of_memory (fix_work image ecc cut) image old new out out' status (not_of_words image ecc cut) works
    (stands image ecc cut old new false false OutOfMemory works is) ends

-- the same by what was answered
pub told_fixed : (image ecc : List ℕ) (cut : Bool) (old new : DeskState) (out out' : SinkState) (answer : Result FixReport FixRefusal) (report : FixReport) (status : ℕ)
    → answer ≡ Ok report → IsFix image ecc cut old new answer → Ends (fix_lines report image) (fixed_status report) out out' status → RunsAlone (fix_work image ecc cut) old new out out' status
told_fixed image ecc cut old new out out' answer report status is it ends =
    let p = subst (λ (a : Result FixReport FixRefusal). IsFix image ecc cut old new a) is it in
    fixed image ecc cut old new out out' report status p.works p.answer ends

pub told_not_fixed : (image ecc : List ℕ) (cut : Bool) (old new : DeskState) (out out' : SinkState) (answer : Result FixReport FixRefusal) (why : FixRefusal) (status : ℕ)
    → answer ≡ Err why → IsFix image ecc cut old new answer → Ends (fault_line (fix_fault why)) (status_of (fix_fault why)) out out' status
    → RunsAlone (fix_work image ecc cut) old new out out' status
told_not_fixed image ecc cut old new out out' answer why status is it ends =
    let p = subst (λ (a : Result FixReport FixRefusal). IsFix image ecc cut old new a) is it in
    not_fixed image ecc cut old new out out' why status p.works p.answer p.write_fault_last ends
