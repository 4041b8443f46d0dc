-- What holds of a run that makes the file of an image, by how the making and the last text ended.
use Rattle.std.proofs.Common.{◌≡◌, ◌⊎◌, ℕ, List, refl, ap, ◌∙◌, inl, inr, arith, false, subst}
use Rattle.std.specs.Prelude.{IsTrue, Option, Some, None, Result, Ok, Err}
use Rattle.rs01_outside.specs.DeskState.{DeskState, WorksOn}
use Rattle.rs01_outside.specs.Files.{Files, SameElsewhere}
use Rattle.rs01_outside.specs.SinkState.{SinkState}
use Rattle.rs01_create.specs.Answer.{Creates, IsMade, IsRefused, Leaves, LeavesUnder, is_read_fault, is_write_fault}
use Rattle.rs01_create.specs.Create.{refusal_of}
use Rattle.rs01_create.specs.Creating.{IsCreate}
use Rattle.rs01_create.specs.declared.refusal.CreateRefusal.{CreateRefusal}
use Rattle.rs01_create.specs.declared.refusal.CreateRefusal.TheVariants.{NoImage, EmptyImage, TooManySectors, Marker, ReadFault, WriteFault, OutOfMemory}
use Rattle.rs01_rack.specs.Rack.{RackState}
use Rattle.rs01_report.specs.declared.faults.Fault.{Fault}
use Rattle.rs01_report.specs.declared.reports.CreateReport.{CreateReport}
use Rattle.rs01_report.specs.Faults.{fault_line, status_of}
use Rattle.rs01_report.specs.Texts.{create_lines}
use Rattle.rs01_top.specs.Create.{IsWhole, create_work}
use Rattle.rs01_top.specs.Faults.{create_fault}
use Rattle.rs01_top.specs.Outside.{told_by}
use Rattle.rs01_top.specs.Work.{fault_if}
use Rattle.rs01_top.specs.Run.{Ends, RunsAlone}
use Rattle.rs01_top.proofs.Alone.{MayLeave, done, out_of_memory, read_failed, refused, write_failed}
use Rattle.rs01_top.proofs.Endings.{NotOfWords, some_same}

not_words : (why : CreateRefusal) → status_of (create_fault why) ≡ 2 → ⊥
not_words NoImage e = omega arith
not_words EmptyImage e = omega arith
not_words (TooManySectors n) e = omega arith
not_words (Marker s) e = omega arith
not_words ReadFault e = omega arith
not_words WriteFault e = omega arith
not_words OutOfMemory e = omega arith

of_some : (o : Option CreateRefusal) (why : Fault) → fault_if create_fault o ≡ Some why → status_of why ≡ 2 → ⊥
of_some None why e two = cc
of_some (Some x) why e two = not_words x (ap status_of (some_same (create_fault x) why e) ∙ two)

not_of_words : (image ecc : List ℕ) (r : ℕ) → NotOfWords (create_work image ecc r)
not_of_words image ecc r found why e two = of_some (refusal_of (found.files image)) why e two

-- a file that stays is what may be left
stays : (o : Option CreateRefusal) (header : List ℕ) (old new : Option (List ℕ)) → new ≡ old → Leaves o header old new
stays None header old new e = inl e
stays (Some why) header old new e = e

-- what may stand under the file's name, and no other file has changed
may : (image ecc : List ℕ) (r : ℕ) (old new : DeskState) → (IsTrue old.tells → SameElsewhere ecc old.files new.files)
    → ((rack : RackState) → IsTrue old.tells → LeavesUnder image ecc r old.files new.files ⊎ IsWhole image ecc r (told_by old rack) (told_by new rack))
    → MayLeave (create_work image ecc r) old new
may image ecc r old new elsewhere left = record { stands = λ rack d. record { elsewhere = elsewhere d; left = left rack d }; keeps = λ rack out out'. elsewhere }

-- the file was made
made : (image ecc : List ℕ) (r : ℕ) (old new : DeskState) (out out' : SinkState) (report : CreateReport) (status : ℕ)
    → WorksOn ecc old new false false
    → (IsTrue old.tells → IsMade image ecc r old.files new.files report)
    → Ends (create_lines report ecc) 0 out out' status
    → RunsAlone (create_work image ecc r) old new out out' status
made image ecc r old new out out' report status works is ends =
    done (create_work image ecc r) ecc old new out out' (create_lines report ecc) 0 status (not_of_words image ecc r) refl (inl refl) works
    (λ rack d. ap (λ (o : Option CreateRefusal). fault_if create_fault o) (is d).accepted)
    (λ rack d. record { files = (is d).file; lines = ap (λ (p : CreateReport). create_lines p ecc) (is d).told; number = refl })
    (may image ecc r old new works.elsewhere (λ rack d. inr (record { accepted = (is d).accepted; whole = (is d).file.there })))
    ends

-- the image is refused
of_image : (image ecc : List ℕ) (r : ℕ) (old new : DeskState) (out out' : SinkState) (why : CreateRefusal) (status : ℕ)
    → status_of (create_fault why) ≡ 3 → WorksOn ecc old new false false
    → (IsTrue old.tells → IsRefused image old.files new.files why)
    → Ends (fault_line (create_fault why)) (status_of (create_fault why)) out out' status
    → RunsAlone (create_work image ecc r) old new out out' status
of_image image ecc r old new out out' why status three works is ends =
    refused (create_work image ecc r) ecc old new out out' (create_fault why) status (not_of_words image ecc r) three works
    (λ rack d. ap (λ (o : Option CreateRefusal). fault_if create_fault o) (is d).refused)
    (λ d. (is d).unchanged)
    (may image ecc r old new works.elsewhere (λ rack d. inl (stays _ _ _ _ (ap (λ (f : Files). f ecc) (is d).unchanged))))
    ends

not_made : (image ecc : List ℕ) (r : ℕ) (old new : DeskState) (out out' : SinkState) (why : CreateRefusal) (status : ℕ)
    → WorksOn ecc old new (is_read_fault {T = CreateReport} (Err why)) (is_write_fault {T = CreateReport} (Err why))
    → (IsTrue old.tells → Creates image ecc r old.files new.files (Err why))
    → Ends (fault_line (create_fault why)) (status_of (create_fault why)) out out' status
    → RunsAlone (create_work image ecc r) old new out out' status
not_made image ecc r old new out out' NoImage status works is ends = of_image image ecc r old new out out' NoImage status refl works is ends
not_made image ecc r old new out out' EmptyImage status works is ends = of_image image ecc r old new out out' EmptyImage status refl works is ends
not_made image ecc r old new out out' (TooManySectors n) status works is ends =
    of_image image ecc r old new out out' (TooManySectors n) status refl works is ends
not_made image ecc r old new out out' (Marker s) status works is ends = of_image image ecc r old new out out' (Marker s) status refl works is ends
not_made image ecc r old new out out' ReadFault status works is ends =
    read_failed (create_work image ecc r) ecc old new out out' status (not_of_words image ecc r) works
    (may image ecc r old new works.elsewhere (λ rack d. inl (is d))) ends
not_made image ecc r old new out out' WriteFault status works is ends =
    write_failed (create_work image ecc r) ecc old new out out' status (not_of_words image ecc r) refl works
    (λ rack d. ap (λ (o : Option CreateRefusal). fault_if create_fault o) (is d).0)
    (may image ecc r old new works.elsewhere (λ rack d. inl (is d).1)) ends
not_made image ecc r old new out out' OutOfMemory status works is ends =
    out_of_memory (create_work image ecc r) ecc old new out out' status (not_of_words image ecc r) works
    (may image ecc r old new works.elsewhere (λ rack d. inl (is d))) ends

-- the same by what was answered
pub told_made : (image ecc : List ℕ) (r : ℕ) (old new : DeskState) (out out' : SinkState) (answer : Result CreateReport CreateRefusal) (report : CreateReport) (status : ℕ)
    → answer ≡ Ok report → IsCreate image ecc r old new answer → Ends (create_lines report ecc) 0 out out' status → RunsAlone (create_work image ecc r) old new out out' status
told_made image ecc r old new out out' answer report status is it ends =
    let p = subst (λ (a : Result CreateReport CreateRefusal). IsCreate image ecc r old new a) is it in
    made image ecc r old new out out' report status p.works p.answer ends

pub told_not_made : (image ecc : List ℕ) (r : ℕ) (old new : DeskState) (out out' : SinkState) (answer : Result CreateReport CreateRefusal) (why : CreateRefusal) (status : ℕ)
    → answer ≡ Err why → IsCreate image ecc r old new answer → Ends (fault_line (create_fault why)) (status_of (create_fault why)) out out' status
    → RunsAlone (create_work image ecc r) old new out out' status
told_not_made image ecc r old new out out' answer why status is it ends =
    let p = subst (λ (a : Result CreateReport CreateRefusal). IsCreate image ecc r old new a) is it in
    not_made image ecc r old new out out' why status p.works p.answer ends
