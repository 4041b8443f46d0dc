-- The ways that every demonstration ends, whoever works its layers.
use Rattle.std.proofs.Common.{◌≡◌, ◌≢◌, ℕ, List, subst, sym, refl, true, false}
use Rattle.std.specs.Prelude.{IsTrue, Some, Result, Ok, Err}
use Rattle.rs01_outside.specs.DeskState.{DeskState, OnlyChanges, OnlyReads, WorksOn}
use Rattle.rs01_outside.specs.declared.Failed.{Failed}
use Rattle.rs01_outside.proofs.States.{works-changes, works-reads}
use Rattle.rs01_create.specs.Creating.{IsCreate}
use Rattle.rs01_create.specs.declared.refusal.CreateRefusal.{CreateRefusal}
use Rattle.rs01_ecchead.specs.Walked.{is_walk_fault}
use Rattle.rs01_ecchead.specs.declared.walk.WalkFault.{WalkFault}
use Rattle.rs01_ecchead.specs.declared.walk.WalkFault.TheVariants as walk
use Rattle.rs01_fix.specs.Fixing.{IsFix}
use Rattle.rs01_fix.specs.declared.refusal.FixRefusal.{FixRefusal}
use Rattle.rs01_report.specs.declared.reports.CreateReport.{CreateReport}
use Rattle.rs01_report.specs.declared.reports.FixReport.{FixReport}
use Rattle.rs01_demo.specs.Faults.{IsFault, WorksOnTwo, reads_badly, walk_refusal, writes_badly}
use Rattle.rs01_demo.specs.Plan.{IsInRange, original}
use Rattle.rs01_demo.specs.Showing.{IsDemo, IsProtected, IsReadied, IsRepaired}
use Rattle.rs01_demo.specs.Steps.{IsPartly, Marks, TellsOf}
use Rattle.rs01_demo.specs.declared.demonstration.Demonstration.{Demonstration}
use Rattle.rs01_demo.specs.declared.plan.Plan.{Plan}
use Rattle.rs01_demo.specs.declared.refusal.DemoRefusal.{DemoRefusal}
use Rattle.rs01_demo.specs.declared.refusal.DemoRefusal.TheVariants.{Create, Fix, WriteFault}
use Rattle.rs01_demo.proofs.CountLemmas.{on_first, on_second, two_then}
use Rattle.rs01_demo.proofs.SetUpLemmas.{making_stops, marking_stops, protecting_stops, set_up_is}
use Rattle.rs01_demo.proofs.ToldLemmas.{repairing_stops, shown_so, telling_stops}

-- the image wasn't made
pub not_made : (plan : Plan) (image ecc : List ℕ) (old new : DeskState) (why : DemoRefusal) → image ≢ ecc → WorksOn image old new (reads_badly why) (writes_badly why) → IsFault why
    → (IsTrue old.tells → IsPartly (original plan) (old.files image) (new.files image)) → IsDemo plan image ecc old new (Err why)
not_made plan image ecc old new why differ works fault partly = record {
  works = on_first image ecc old new (reads_badly why) (writes_badly why) works;
  answer = λ t. making_stops plan image ecc old.files new.files why differ fault (works.elsewhere t) (partly t);
}

-- the image was made, and then its error correction file was to be
pub protected_by : (plan : Plan) (image ecc : List ℕ) (old start now : DeskState) (made : Result CreateReport CreateRefusal) → image ≢ ecc → IsInRange plan
    → WorksOn image old start false false → (IsTrue old.tells → start.files image ≡ Some (original plan)) → IsCreate image ecc plan.parity start now made
    → IsProtected plan image ecc old now made
protected_by plan image ecc old start now made differ range works image_is creates =
    record { differ = differ; range = range; start = start; works = works; image_is = image_is; creates = creates }

-- both were readied, and then the image was to be repaired
pub repaired_by : (plan : Plan) (image ecc : List ℕ) (old start now : DeskState) (sum : List ℕ) (fixed : Result FixReport FixRefusal) → image ≢ ecc → IsInRange plan
    → IsReadied plan image ecc old start (Ok sum) → IsFix image ecc false start now fixed → IsRepaired plan image ecc old now sum fixed
repaired_by plan image ecc old start now sum fixed differ range readied fixes =
    record { differ = differ; range = range; start = start; readied = readied; fixes = fixes }

-- what was told of a step, by another name
made_as : (plan : Plan) (image ecc : List ℕ) (old now : DeskState) (one other : Result CreateReport CreateRefusal) → one ≡ other
    → IsProtected plan image ecc old now one → IsProtected plan image ecc old now other
made_as plan image ecc old now one other same p = subst (λ (r : Result CreateReport CreateRefusal). IsProtected plan image ecc old now r) same p

fixed_as : (plan : Plan) (image ecc : List ℕ) (old now : DeskState) (sum : List ℕ) (one other : Result FixReport FixRefusal) → one ≡ other
    → IsRepaired plan image ecc old now sum one → IsRepaired plan image ecc old now sum other
fixed_as plan image ecc old now sum one other same p = subst (λ (r : Result FixReport FixRefusal). IsRepaired plan image ecc old now sum r) same p

-- its error correction file wasn't
pub not_protected : (plan : Plan) (image ecc : List ℕ) (old now : DeskState) (made : Result CreateReport CreateRefusal) (why : CreateRefusal) → made ≡ Err why
    → IsProtected plan image ecc old now made → IsReadied plan image ecc old now (Err (Create why))
not_protected plan image ecc old now made why is given =
    let p = made_as plan image ecc old now made (Err why) is given in
    record {
      works = two_then image ecc old p.start now _ _ (on_first image ecc old p.start false false p.works) (on_second image ecc p.start now _ _ p.creates.works);
      left = λ t.
          let told = subst IsTrue (sym p.works.tells) t in
          protecting_stops plan image ecc old.files p.start.files now.files why p.differ p.range (p.image_is t) (p.works.elsewhere t)
          (p.creates.works.elsewhere told) (p.creates.answer told);
    }

-- both were made
both_made : (plan : Plan) (image ecc : List ℕ) (old now : DeskState) (report : CreateReport) → IsProtected plan image ecc old now (Ok report) → WorksOnTwo image ecc old now false false
both_made plan image ecc old now report p =
    two_then image ecc old p.start now false false (on_first image ecc old p.start false false p.works) (on_second image ecc p.start now false false p.creates.works)

pub marked : (plan : Plan) (image ecc : List ℕ) (old now new : DeskState) (made : Result CreateReport CreateRefusal) (report : CreateReport) (value : Unit {0}) → made ≡ Ok report
    → IsProtected plan image ecc old now made → OnlyChanges image now new false
    → (IsTrue now.tells → Marks {T = Unit {0}} {E = Failed} plan.lost image now.files new.files (Ok value)) → IsReadied plan image ecc old new (Ok report.image_sum)
marked plan image ecc old now new made report value is given changes marks =
    let p = made_as plan image ecc old now made (Ok report) is given in
    let works = both_made plan image ecc old now report p in
    record {
      works = two_then image ecc old now new false false works (on_first image ecc now new false false (works-changes image now new false changes));
      left = λ t.
          let start = subst IsTrue (sym p.works.tells) t in
          let told = subst IsTrue (sym works.counts.tells) t in
          set_up_is plan image ecc p.start.files now.files new.files report p.differ p.range (p.image_is t) (p.creates.answer start) (changes.elsewhere told) (marks told);
    }

pub not_marked : (plan : Plan) (image ecc : List ℕ) (old now new : DeskState) (made : Result CreateReport CreateRefusal) (report : CreateReport) (failed : Failed) → made ≡ Ok report
    → IsProtected plan image ecc old now made → OnlyChanges image now new true
    → (IsTrue now.tells → Marks {T = Unit {0}} {E = Failed} plan.lost image now.files new.files (Err failed)) → IsReadied plan image ecc old new (Err WriteFault)
not_marked plan image ecc old now new made report failed is given changes marks =
    let p = made_as plan image ecc old now made (Ok report) is given in
    let works = both_made plan image ecc old now report p in
    record {
      works = two_then image ecc old now new false true works (on_first image ecc now new false true (works-changes image now new true changes));
      left = λ t.
          let start = subst IsTrue (sym p.works.tells) t in
          let told = subst IsTrue (sym works.counts.tells) t in
          marking_stops plan image ecc old.files p.start.files now.files new.files report p.differ p.range (p.image_is t) (p.creates.answer start) (changes.elsewhere told) (marks told);
    }

-- both were readied, or not
pub not_readied : (plan : Plan) (image ecc : List ℕ) (old new : DeskState) (why : DemoRefusal) → IsReadied plan image ecc old new (Err why) → IsDemo plan image ecc old new (Err why)
not_readied plan image ecc old new why is = record { works = is.works; answer = is.left }

-- the image wasn't repaired
pub not_repaired : (plan : Plan) (image ecc : List ℕ) (old now : DeskState) (sum : List ℕ) (fixed : Result FixReport FixRefusal) (why : FixRefusal) → fixed ≡ Err why
    → IsRepaired plan image ecc old now sum fixed → IsDemo plan image ecc old now (Err (Fix why))
not_repaired plan image ecc old now sum fixed why is given =
    let p = fixed_as plan image ecc old now sum fixed (Err why) is given in
    record {
      works = two_then image ecc old p.start now _ _ p.readied.works (on_first image ecc p.start now _ _ p.fixes.works);
      answer = λ t.
          let told = subst IsTrue (sym p.readied.works.counts.tells) t in
          repairing_stops plan image ecc old.files p.start.files now.files sum why p.differ p.range (p.readied.left t) (p.fixes.works.elsewhere told) (p.fixes.answer told);
    }

-- it was repaired, and then it was told or that failed
all_done : (plan : Plan) (image ecc : List ℕ) (old now : DeskState) (sum : List ℕ) (report : FixReport) → IsRepaired plan image ecc old now sum (Ok report) → WorksOnTwo image ecc old now false false
all_done plan image ecc old now sum report p =
    two_then image ecc old p.start now false false p.readied.works (on_first image ecc p.start now false false p.fixes.works)

pub shown : (plan : Plan) (image ecc : List ℕ) (old now new : DeskState) (sum : List ℕ) (fixed : Result FixReport FixRefusal) (report : FixReport) (told : Demonstration) → fixed ≡ Ok report
    → IsRepaired plan image ecc old now sum fixed → OnlyReads now new false
    → (IsTrue now.tells → TellsOf {E = WalkFault} plan image ecc now.files sum report (Ok told)) → IsDemo plan image ecc old new (Ok told)
shown plan image ecc old now new sum fixed report told is given reads tells =
    let p = fixed_as plan image ecc old now sum fixed (Ok report) is given in
    let works = all_done plan image ecc old now sum report p in
    record {
      works = two_then image ecc old now new false false works (on_first image ecc now new false false (works-reads image now new false reads));
      answer = λ t.
          let start = subst IsTrue (sym p.readied.works.counts.tells) t in
          let here = subst IsTrue (sym works.counts.tells) t in
          shown_so plan image ecc p.start.files now.files new.files sum report told p.differ p.range (p.readied.left t) (p.fixes.answer start) (reads.unchanged here) (tells here);
    }

read_badly : (T : Type 0) (why : WalkFault) → is_walk_fault {T = T} (Err why) ≡ reads_badly (walk_refusal why)
read_badly T walk.ReadFault = refl
read_badly T walk.OutOfMemory = refl

no_write : (why : WalkFault) → false ≡ writes_badly (walk_refusal why)
no_write walk.ReadFault = refl
no_write walk.OutOfMemory = refl

not_told_as : (plan : Plan) (image ecc : List ℕ) (old now new : DeskState) (sum : List ℕ) (report : FixReport) (why : WalkFault) → IsRepaired plan image ecc old now sum (Ok report)
    → OnlyReads now new (is_walk_fault {T = Demonstration} (Err why)) → IsDemo plan image ecc old new (Err (walk_refusal why))
not_told_as plan image ecc old now new sum report why p reads =
    let works = all_done plan image ecc old now sum report p in
    record {
      works = two_then image ecc old now new (reads_badly (walk_refusal why)) (writes_badly (walk_refusal why)) works
          (on_first image ecc now new (reads_badly (walk_refusal why)) (writes_badly (walk_refusal why))
          (subst (λ b. WorksOn image now new (reads_badly (walk_refusal why)) b) (no_write why)
          (works-reads image now new (reads_badly (walk_refusal why)) (subst (λ b. OnlyReads now new b) (read_badly Demonstration why) reads))));
      answer = λ t.
          let start = subst IsTrue (sym p.readied.works.counts.tells) t in
          let here = subst IsTrue (sym works.counts.tells) t in
          telling_stops plan image ecc old.files p.start.files now.files new.files sum report why p.differ p.range (p.readied.left t) (p.fixes.answer start) (reads.unchanged here);
    }

pub not_told : (plan : Plan) (image ecc : List ℕ) (old now new : DeskState) (sum : List ℕ) (fixed : Result FixReport FixRefusal) (report : FixReport) (why : WalkFault) (told : DemoRefusal)
    → fixed ≡ Ok report → told ≡ walk_refusal why → IsRepaired plan image ecc old now sum fixed → OnlyReads now new (is_walk_fault {T = Demonstration} (Err why))
    → IsDemo plan image ecc old new (Err told)
not_told plan image ecc old now new sum fixed report why told is same given reads =
    subst (λ (w : DemoRefusal). IsDemo plan image ecc old new (Err w)) (sym same)
    (not_told_as plan image ecc old now new sum report why (fixed_as plan image ecc old now sum fixed (Ok report) is given) reads)
