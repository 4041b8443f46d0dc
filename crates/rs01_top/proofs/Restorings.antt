-- A run of `fix` gives back what its definition does.
use Rattle.std.proofs.Common.{◌≡◌, ◌∙◌, ℕ, Bool, List, sym, ap, subst}
use Rattle.std.specs.Prelude.{IsOkAnd, IsSomeAnd, IsTrue, Option, None, Ok, Result}
use Rattle.rs01_ecchead.specs.Opened.{Opened, opened_file}
use Rattle.rs01_fix.specs.Answer.{Repaired, repaired}
use Rattle.rs01_fix.specs.ComesBack.{ComesBack}
use Rattle.rs01_fix.specs.declared.refusal.FixRefusal.{FixRefusal}
use Rattle.rs01_fix.proofs.ComesBack.{repaired_comes_back}
use Rattle.rs01_fix.proofs.FileLemmas.{by_both}
use Rattle.rs01_report.specs.declared.faults.Fault.{Fault}
use Rattle.rs01_top.specs.Faults.{fix_fault}
use Rattle.rs01_top.specs.Fix.{IsFixed, answer_to, fix_work}
use Rattle.rs01_top.specs.Outside.{Outside, World, outside_of}
use Rattle.rs01_top.specs.Restoring.{BringsBack, RunsBringBack}
use Rattle.rs01_top.specs.Run.{Tells}
use Rattle.rs01_top.specs.Work.{Answers, AnswersBy, Work, fault_in}

-- work that isn't refused is done
is_done : (work : Work) (old new : Outside) (put : List ℕ) (status : ℕ) → work.refusal old ≡ None → Answers work old new put status → work.done old new put status
is_done work old new put status none answers = subst (λ (o : Option Fault). AnswersBy o work.done old new put status) none answers

-- what was done where the definition's answer is this one
is_fixed : (image ecc : List ℕ) (cut : Bool) (old new : World) (put : List ℕ) (status : ℕ) (it : Repaired)
    → answer_to image ecc cut (outside_of old) ≡ Ok it → Answers (fix_work image ecc cut) (outside_of old) (outside_of new) put status
    → IsFixed image (outside_of old) (outside_of new) put status it
is_fixed image ecc cut old new put status it is answers =
    let none : (fix_work image ecc cut).refusal (outside_of old) ≡ None = ap (λ (a : Result Repaired FixRefusal). fault_in fix_fault a) is in
    let done : IsOkAnd (answer_to image ecc cut (outside_of old)) (IsFixed image (outside_of old) (outside_of new) put status) =
    is_done (fix_work image ecc cut) (outside_of old) (outside_of new) put status none answers in
    subst (λ (a : Result Repaired FixRefusal). IsOkAnd a (IsFixed image (outside_of old) (outside_of new) put status)) is done

-- drives aren't used
no_drives : (image ecc : List ℕ) (cut : Bool) (A : Type 0) → IsTrue (fix_work image ecc cut).uses_drives → A
no_drives image ecc cut A h = let never : ⊥ = cc in absurd never

-- and so what was put and left
brings : (original : List ℕ) (c : Opened) (y image : List ℕ) (old new : World) (put : List ℕ) (status : ℕ) (it : Repaired)
    → IsFixed image (outside_of old) (outside_of new) put status it → Tells old.out new.out put → ComesBack original c y it
    → BringsBack original c y image old new status
brings original c y image old new put status it fixed told back = record {
  report = it.report;
  lines = subst (Tells old.out new.out) fixed.lines told;
  number = fixed.number;
  back =
      subst (λ (o : Option (List ℕ)). IsSomeAnd o (λ now. ComesBack original c y (record { file = now; report = it.report })))
      (sym fixed.files.there) back;
}

pub runs_bring_back : RunsBringBack
runs_bring_back image ecc cut old new status run t settled original file y r c there stands is others =
    let (put, answers, told) = run.answer (t, no_drives image ecc cut _) settled in
    let it = repaired c y cut in
    let answer : answer_to image ecc cut (outside_of old) ≡ Ok it =
    by_both (old.desk.files ecc) (old.desk.files image) cut c y (ap opened_file there ∙ is.says) stands in
    brings original c y image old new put status it (is_fixed image ecc cut old new put status it answer answers) told
    (repaired_comes_back original file y r c cut is others)
