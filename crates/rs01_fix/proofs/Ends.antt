-- The ways that every repair ends, however its windows are worked.
use Rattle.std.proofs.Common.{◌≡◌, ◌∙◌, ℕ, List, ap, subst, sym, refl, Bool, true, false}
use Rattle.std.specs.Prelude.{IsTrue, Result, Ok, Err}
use Rattle.rs01_outside.specs.DeskState.{DeskState, OnlyChanges, OnlyReads, WorksOn}
use Rattle.rs01_outside.specs.Files.{Files, bytes_of}
use Rattle.rs01_outside.proofs.States.{works-changes, works-reads, works-then}
use Rattle.rs01_ecchead.specs.Opened.{opened_as}
use Rattle.rs01_report.specs.declared.reports.FixReport.{FixReport}
use Rattle.rs01_repair.specs.Finding.{Sources, answer_to, layers_in, said}
use Rattle.rs01_repair.specs.declared.found.Found.{Found}
use Rattle.rs01_fix.specs.Answer.{repaired}
use Rattle.rs01_fix.specs.Fixing.{IsFix, IsStarted, IsWorked}
use Rattle.rs01_fix.specs.Outcome.{FixesOn, IsOfRepair, TellsTwo, reads_badly, writes_badly}
use Rattle.rs01_fix.specs.Steps.{AreKept, ByEcc, IsFound, IsFoundOn, IsRepaired, IsToldOf, IsUnderway, sources}
use Rattle.rs01_fix.specs.declared.course.Course.{Course}
use Rattle.rs01_fix.specs.declared.refusal.FixRefusal.{FixRefusal}
use Rattle.rs01_fix.specs.declared.refusal.FixRefusal.TheVariants.{NoFile, Head, Size, Body, ReadFault, WriteFault, OutOfMemory}
use Rattle.rs01_fix.proofs.ComesBack.{gives_back}
use Rattle.rs01_fix.proofs.CutLemmas.{uncut_on_the_way}
use Rattle.rs01_fix.proofs.EngineLemmas.{repaired_all, underway, works_done, works_stopped}
use Rattle.rs01_fix.proofs.FileLemmas.{by_both, ecc_is, ends_refused, ends_repaired, ends_underway, is_ok_answer, measured}
use Rattle.rs01_fix.proofs.FoundLemmas.{have_blocks, is_image}

never : false ≡ true → ⊥
never e = let h : ⊥ = cc in h

-- a refusal that comes from repairing tells no two values
tells_two : (why : FixRefusal) → IsOfRepair why → TellsTwo why
tells_two (NoFile which) of = tt
tells_two (Head why) of = tt
tells_two (Size have want) of = absurd of
tells_two (Body have want) of = absurd of
tells_two ReadFault of = tt
tells_two WriteFault of = tt
tells_two OutOfMemory of = tt

-- it was refused while the files were found
pub refused : (image ecc : List ℕ) (cut : Bool) (old new : DeskState) (why : FixRefusal) → OnlyReads old new (reads_badly why) → IsFoundOn ecc image old (Err why)
    → writes_badly why ≡ false → TellsTwo why → IsFix image ecc cut old new (Err why)
refused image ecc cut old new why reads found_is unwritten differ = record {
  works = subst (λ b. WorksOn image old new (reads_badly why) b) (sym unwritten) (works-reads image old new (reads_badly why) reads);
  answer = λ t. ends_refused image ecc cut old.files new.files why (found_is t cut) (reads.unchanged t);
  comes_back = λ t original file y r c there stands is others. tt;
  write_fault_last = λ t fault. absurd (never (subst IsTrue unwritten fault));
  differ = differ;
}

-- memory ran out then
pub lacking : (image ecc : List ℕ) (cut : Bool) (old new : DeskState) → OnlyReads old new false → IsFix image ecc cut old new (Err OutOfMemory)
lacking image ecc cut old new reads = refused image ecc cut old new OutOfMemory reads (λ t cut of. absurd of) refl tt

-- a fact about the image file after work on it, where the desk tells its files and it was the one that was found
abbrev Since : (image ecc : List ℕ) (start : DeskState) (found : Found) → (Sources found → Type 0) → Type 0
Since image ecc start found Fact = ByEcc found ecc start (λ was. IsTrue start.tells → IsFound found was (start.files image) → Fact was)

-- it stopped while the image was on the way to the fixed one
stopped : (image ecc : List ℕ) (cut : Bool) (old start new : DeskState) (found : Found) (begun : Course) (why : FixRefusal) → IsStarted image ecc old start found begun
    → WorksOn image start new (reads_badly why) (writes_badly why) → IsOfRepair why → Since image ecc start found (λ was. IsUnderway found was cut (new.files image))
    → IsFix image ecc cut old new (Err why)
stopped image ecc cut old start new found begun why started works of way = record {
  works = works-then image old start new (reads_badly why) (writes_badly why) (works-reads image old start false started.reads) works;
  answer = λ t.
      let e = bytes_of old.files ecc in
      let is = started.found_is t in
      let y = measured (old.files image) found.size is.1 in
      let has = ecc_is found old start ecc started.reads t is.0 in
      ends_underway image ecc cut old.files new.files why (opened_as found.ecc e) y.0 of
      (by_both (old.files ecc) (old.files image) cut (opened_as found.ecc e) y.0 is.0 y.1) y.1
      (way e y.0 y.2 has (subst IsTrue (sym started.reads.tells) t) (ap (λ (f : Files). f image) (started.reads.unchanged t) ∙ y.1));
  comes_back = λ t original file y r c there stands is others. tt;
  write_fault_last = λ t fault.
      let e = bytes_of old.files ecc in
      let is = started.found_is t in
      let y = measured (old.files image) found.size is.1 in
      is_ok_answer _ (repaired (opened_as found.ecc e) y.0 cut) (by_both (old.files ecc) (old.files image) cut (opened_as found.ecc e) y.0 is.0 y.1);
  differ = tells_two why of;
}

-- it was done
done_answer : (image ecc : List ℕ) (cut : Bool) (old start new : DeskState) (found : Found) (begun : Course) (told : FixReport) → IsStarted image ecc old start found begun
    → WorksOn image start new false false → Since image ecc start found (λ was. IsRepaired found was cut (new.files image) × IsToldOf found was cut told)
    → FixesOn image ecc cut old new (Ok told)
done_answer image ecc cut old start new found begun told started works ends = λ t.
    let e = bytes_of old.files ecc in
    let is = started.found_is t in
    let y = measured (old.files image) found.size is.1 in
    let has = ecc_is found old start ecc started.reads t is.0 in
    let told_at = subst IsTrue (sym started.reads.tells) t in
    let there = ap (λ (f : Files). f image) (started.reads.unchanged t) ∙ y.1 in
    let ended = ends e y.0 y.2 has told_at there in
    ends_repaired image ecc cut old.files new.files told (opened_as found.ecc e) y.0
    (by_both (old.files ecc) (old.files image) cut (opened_as found.ecc e) y.0 is.0 y.1) ended.0 ended.1
    (λ other apart. works.elsewhere told_at other apart ∙ ap (λ (f : Files). f other) (started.reads.unchanged t))

done : (image ecc : List ℕ) (cut : Bool) (old start new : DeskState) (found : Found) (begun : Course) (told : FixReport) → IsStarted image ecc old start found begun
    → WorksOn image start new false false → Since image ecc start found (λ was. IsRepaired found was cut (new.files image) × IsToldOf found was cut told)
    → IsFix image ecc cut old new (Ok told)
done image ecc cut old start new found begun told started works ends = record {
  works = works-then image old start new false false (works-reads image old start false started.reads) works;
  answer = done_answer image ecc cut old start new found begun told started works ends;
  comes_back = λ t. gives_back image ecc cut old.files new.files told (done_answer image ecc cut old start new found begun told started works ends t);
  write_fault_last = λ t fault. absurd (never fault);
  differ = tt;
}

-- what was told of the windows, by another name
as_told : {T : Type 0} (image ecc : List ℕ) (old now : DeskState) (found : Found) (course : Course) (one other : Result T FixRefusal) → one ≡ other
    → IsWorked image ecc old now found course one → IsWorked image ecc old now found course other
as_told {T} image ecc old now found course one other same w = subst (λ (r : Result T FixRefusal). IsWorked image ecc old now found course r) same w

-- the windows were given up
pub after_stop : {T : Type 0} (image ecc : List ℕ) (cut : Bool) (old now : DeskState) (found : Found) (course : Course) (worked : Result T FixRefusal) (why : FixRefusal)
    → worked ≡ Err why → IsWorked image ecc old now found course worked → IsFix image ecc cut old now (Err why)
after_stop {T} image ecc cut old now found course worked why is given =
    let w : IsWorked {T = T} image ecc old now found course (Err why) = as_told image ecc old now found course worked (Err why) is given in
    stopped image ecc cut old w.start now found w.begun why w.started (works_stopped found image ecc w.start now w.begun course why w.started.begins w.work.goes w.work.stopped)
    w.work.stopped.of_repair (λ e y size has t from. underway found image ecc e y size w.start now w.begun course w.started.begins w.work.goes has from cut)

-- all were worked, and then memory ran out
pub after_lack : {T : Type 0} (image ecc : List ℕ) (cut : Bool) (old now : DeskState) (found : Found) (course : Course) (worked : Result T FixRefusal) (value : T)
    → worked ≡ Ok value → IsWorked image ecc old now found course worked → IsFix image ecc cut old now (Err OutOfMemory)
after_lack {T} image ecc cut old now found course worked value is given =
    let w : IsWorked {T = T} image ecc old now found course (Ok value) = as_told image ecc old now found course worked (Ok value) is given in
    stopped image ecc cut old w.start now found w.begun OutOfMemory w.started (works_done found image ecc w.start now w.begun course w.started.begins w.work.goes w.work.finished.none) tt
    (λ e y size has t from.
    let was = sources found e y size in
    uncut_on_the_way (said found was) was.image (answer_to found was) cut _ (is_image found was) (have_blocks found was)
    (repaired_all found image ecc e y size w.start now w.begun course w.started.begins w.work.goes w.work.finished has from).0)

-- and then the cut failed
pub after_cut_failed : {T : Type 0} (image ecc : List ℕ) (cut : Bool) (old now new : DeskState) (found : Found) (course : Course) (worked : Result T FixRefusal) (value : T)
    → worked ≡ Ok value → IsWorked image ecc old now found course worked → OnlyChanges image now new true
    → ((was : Sources found) → IsTrue now.tells → IsRepaired found was false (now.files image) → IsUnderway found was cut (new.files image))
    → IsFix image ecc cut old new (Err WriteFault)
after_cut_failed {T} image ecc cut old now new found course worked value is given changes left =
    let w : IsWorked {T = T} image ecc old now found course (Ok value) = as_told image ecc old now found course worked (Ok value) is given in
    stopped image ecc cut old w.start new found w.begun WriteFault w.started
    (works-then image w.start now new false true (works_done found image ecc w.start now w.begun course w.started.begins w.work.goes w.work.finished.none)
    (works-changes image now new true changes)) tt
    (λ e y size has t from. left (sources found e y size) (subst IsTrue (sym w.work.goes.tells) t)
    (repaired_all found image ecc e y size w.start now w.begun course w.started.begins w.work.goes w.work.finished has from).0)

-- and then what is past the image was cut
pub after_cut : {T : Type 0} (image ecc : List ℕ) (cut : Bool) (old now new : DeskState) (found : Found) (course : Course) (worked : Result T FixRefusal) (value : T) (told : FixReport)
    → worked ≡ Ok value → IsWorked image ecc old now found course worked → OnlyChanges image now new false
    → ((was : Sources found) → IsTrue now.tells → IsRepaired found was false (now.files image) → IsRepaired found was cut (new.files image))
    → ((was : Sources found) → AreKept found was (layers_in found) course.repairs → IsToldOf found was cut told) → IsFix image ecc cut old new (Ok told)
after_cut {T} image ecc cut old now new found course worked value told is given changes cuts tells =
    let w : IsWorked {T = T} image ecc old now found course (Ok value) = as_told image ecc old now found course worked (Ok value) is given in
    done image ecc cut old w.start new found w.begun told w.started
    (works-then image w.start now new false false (works_done found image ecc w.start now w.begun course w.started.begins w.work.goes w.work.finished.none)
    (works-changes image now new false changes))
    (λ e y size has t from.
    let was = sources found e y size in
    let all = repaired_all found image ecc e y size w.start now w.begun course w.started.begins w.work.goes w.work.finished has from in
    (cuts was (subst IsTrue (sym w.work.goes.tells) t) all.0, tells was all.1))
