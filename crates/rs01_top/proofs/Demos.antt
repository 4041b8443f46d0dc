-- What holds of a run that shows what the codec does, by how the work and the last text ended.
use Rattle.std.proofs.Common.{◌≡◌, ℕ, refl, sym, subst, ap, inr, Bool, true, false}
use Rattle.std.specs.Prelude.{IsTrue, IsOkAnd, Result, Ok, Err, if◌then◌else◌}
use Rattle.rs01_outside.specs.DeskState.{DeskState}
use Rattle.rs01_outside.specs.Files.{Files}
use Rattle.rs01_outside.specs.SinkState.{SinkState}
use Rattle.rs01_create.specs.declared.refusal.CreateRefusal.TheVariants as create
use Rattle.rs01_fix.specs.Answer.{Repaired}
use Rattle.rs01_fix.specs.declared.refusal.FixRefusal.{FixRefusal}
use Rattle.rs01_fix.specs.declared.refusal.FixRefusal.TheVariants as fix
use Rattle.rs01_demo.specs.Answer.{HasShown}
use Rattle.rs01_demo.specs.Faults.{WorksOnTwo, reads_badly, writes_badly}
use Rattle.rs01_demo.specs.Showing.{IsDemo}
use Rattle.rs01_demo.specs.Plan.{ecc_name, image_name, outcome}
use Rattle.rs01_demo.specs.Steps.{IsLeft, Stops}
use Rattle.rs01_demo.specs.declared.demonstration.Demonstration.{Demonstration}
use Rattle.rs01_demo.specs.declared.plan.Plan.{Plan}
use Rattle.rs01_demo.specs.declared.refusal.DemoRefusal.{DemoRefusal}
use Rattle.rs01_demo.specs.declared.refusal.DemoRefusal.TheVariants.{Create, Fix, ReadFault, WriteFault, OutOfMemory}
use Rattle.rs01_rack.specs.Rack.{RackState}
use Rattle.rs01_report.specs.declared.faults.Fault.{Fault}
use Rattle.rs01_report.specs.declared.faults.Fault.TheVariants as fault
use Rattle.rs01_report.specs.Faults.{fault_line, status_of}
use Rattle.rs01_report.specs.Texts.{demo_lines}
use Rattle.rs01_top.specs.Demo.{HasDemonstrated, MayStandAfterDemo, work_of_plan}
use Rattle.rs01_top.specs.Faults.{demo_fault}
use Rattle.rs01_top.specs.Outside.{Outside, told_by, world}
use Rattle.rs01_top.specs.Run.{Ends, RunsAlone}
use Rattle.rs01_top.proofs.Endings.{NotOfWords, done_by, not_asked, not_false, out_of_memory_by, read_failed_by, refused_by, some_none, write_failed_by}
use Rattle.rs01_top.proofs.HeadFaults.{absent_is, head_is}
use Rattle.rs01_top.proofs.Verifies.{none_or_one}

-- the status of a report
abbrev pub status_for : Bool → ℕ
status_for whole = if whole then 0 else 1

not_of_words : (plan : Plan) → NotOfWords (work_of_plan plan)
not_of_words plan found why e two = cc

-- the repaired image is one that may stand
left_of : (r : Result Repaired FixRefusal) (plan : Plan) (new : Files) (shown : Demonstration)
    → IsOkAnd r (HasShown plan image_name ecc_name new shown) → IsOkAnd r (IsLeft plan image_name ecc_name new)
left_of (Ok x) plan new shown p = p.left
left_of (Err why) plan new shown p = absurd p

told_of : (r : Result Repaired FixRefusal) (plan : Plan) (old new : Outside) (shown : Demonstration) → MayStandAfterDemo plan old new
    → IsOkAnd r (HasShown plan image_name ecc_name new.files shown)
    → IsOkAnd r (HasDemonstrated plan old new (demo_lines shown.report) (status_for shown.whole))
told_of (Ok x) plan old new shown left p = record {
  left = p.left;
  elsewhere = left.elsewhere;
  lines = ap demo_lines p.told.report_is;
  number = ap status_for p.told.whole_is;
}
told_of (Err why) plan old new shown left p = absurd p

after : (plan : Plan) (rack : RackState) (old new : DeskState) (shown : Demonstration) → IsTrue old.tells → WorksOnTwo image_name ecc_name old new false false
    → IsOkAnd (outcome plan) (HasShown plan image_name ecc_name new.files shown)
    → MayStandAfterDemo plan (told_by old rack) (told_by new rack)
after plan rack old new shown d works is = record {
  elsewhere = works.elsewhere d;
  left = inr (inr (inr (inr (left_of (outcome plan) plan new.files shown is))));
}

-- it was shown
shown_so : (plan : Plan) (old new : DeskState) (out out' : SinkState) (shown : Demonstration) (status : ℕ)
    → WorksOnTwo image_name ecc_name old new false false
    → (IsTrue old.tells → IsOkAnd (outcome plan) (HasShown plan image_name ecc_name new.files shown))
    → Ends (demo_lines shown.report) (status_for shown.whole) out out' status
    → RunsAlone (work_of_plan plan) old new out out' status
shown_so plan old new out out' shown status works is ends = λ rack.
    done_by (work_of_plan plan) (world old rack out) (world new rack out') (demo_lines shown.report) (status_for shown.whole) status
    (not_of_words plan) (none_or_one shown.whole (status_for shown.whole) refl) (not_asked (work_of_plan plan) rack) works.counts
    (λ why e t three. some_none why (sym e)) (λ d. refl)
    (λ d. told_of (outcome plan) plan (told_by old rack) (told_by new rack) shown (after plan rack old new shown d.0 works (is d.0)) (is d.0))
    (record { stands = λ d. after plan rack old new shown d.0 works (is d.0); keeps = works.elsewhere })
    (λ u. absurd (not_false u)) ends

-- a refusal, which no desk that tells its files gives
not_told : (plan : Plan) (old new : DeskState) (out out' : SinkState) (why : Fault) (status : ℕ)
    → status_of why ≡ 3 → WorksOnTwo image_name ecc_name old new false false → (IsTrue old.tells → ⊥)
    → Ends (fault_line why) (status_of why) out out' status
    → RunsAlone (work_of_plan plan) old new out out' status
not_told plan old new out out' why status three works never ends = λ rack.
    refused_by (work_of_plan plan) (world old rack out) (world new rack out') why status (not_of_words plan) three
    (not_asked (work_of_plan plan) rack) works.counts
    (λ t. absurd (never t)) (λ t. absurd (never t)) (λ d. absurd (never d.0))
    (record { stands = λ d. absurd (never d.0); keeps = works.elsewhere }) ends

stands : (plan : Plan) (old new : DeskState) (reading writing : Bool) (why : DemoRefusal) (rack : RackState)
    → WorksOnTwo image_name ecc_name old new reading writing
    → (IsTrue old.tells → Stops plan image_name ecc_name old.files new.files why)
    → IsTrue old.tells → MayStandAfterDemo plan (told_by old rack) (told_by new rack)
stands plan old new reading writing why rack works is d = record { elsewhere = works.elsewhere d; left = (is d).left }

read_stopped : (plan : Plan) (old new : DeskState) (out out' : SinkState) (why : DemoRefusal) (status : ℕ)
    → WorksOnTwo image_name ecc_name old new true false
    → (IsTrue old.tells → Stops plan image_name ecc_name old.files new.files why)
    → Ends (fault_line fault.ReadFault) 4 out out' status
    → RunsAlone (work_of_plan plan) old new out out' status
read_stopped plan old new out out' why status works is ends = λ rack.
    read_failed_by (work_of_plan plan) (world old rack out) (world new rack out') status (not_of_words plan) (not_asked (work_of_plan plan) rack) works.counts
    (record { stands = λ d. stands plan old new true false why rack works is d.0; keeps = works.elsewhere }) ends

write_stopped : (plan : Plan) (old new : DeskState) (out out' : SinkState) (why : DemoRefusal) (status : ℕ)
    → WorksOnTwo image_name ecc_name old new false true
    → (IsTrue old.tells → Stops plan image_name ecc_name old.files new.files why)
    → Ends (fault_line fault.WriteFault) 4 out out' status
    → RunsAlone (work_of_plan plan) old new out out' status
write_stopped plan old new out out' why status works is ends = λ rack.
    write_failed_by (work_of_plan plan) (world old rack out) (world new rack out') status (not_of_words plan) refl (not_asked (work_of_plan plan) rack) works.counts
    (λ d. refl) (record { stands = λ d. stands plan old new false true why rack works is d.0; keeps = works.elsewhere }) ends

memory_ran_out : (plan : Plan) (old new : DeskState) (out out' : SinkState) (why : DemoRefusal) (status : ℕ)
    → WorksOnTwo image_name ecc_name old new false false
    → (IsTrue old.tells → Stops plan image_name ecc_name old.files new.files why)
    → Ends (fault_line fault.OutOfMemory) 7 out out' status
    → RunsAlone (work_of_plan plan) old new out out' status
memory_ran_out plan old new out out' why status works is ends = λ rack.
    out_of_memory_by (work_of_plan plan) (world old rack out) (world new rack out') status (not_of_words plan) (not_asked (work_of_plan plan) rack) works.counts
    (record { stands = λ d. stands plan old new false false why rack works is d.0; keeps = works.elsewhere }) ends

-- it wasn't
not_shown : (plan : Plan) (old new : DeskState) (out out' : SinkState) (why : DemoRefusal) (status : ℕ)
    → WorksOnTwo image_name ecc_name old new (reads_badly why) (writes_badly why)
    → (IsTrue old.tells → Stops plan image_name ecc_name old.files new.files why)
    → Ends (fault_line (demo_fault why)) (status_of (demo_fault why)) out out' status
    → RunsAlone (work_of_plan plan) old new out out' status
not_shown plan old new out out' (Create create.NoImage) status works is ends = not_told plan old new out out' _ status refl works (λ d. (is d).fault) ends
not_shown plan old new out out' (Create create.EmptyImage) status works is ends = not_told plan old new out out' _ status refl works (λ d. (is d).fault) ends
not_shown plan old new out out' (Create (create.TooManySectors n)) status works is ends = not_told plan old new out out' _ status refl works (λ d. (is d).fault) ends
not_shown plan old new out out' (Create (create.Marker s)) status works is ends = not_told plan old new out out' _ status refl works (λ d. (is d).fault) ends
not_shown plan old new out out' (Create create.ReadFault) status works is ends = read_stopped plan old new out out' (Create create.ReadFault) status works is ends
not_shown plan old new out out' (Create create.WriteFault) status works is ends = write_stopped plan old new out out' (Create create.WriteFault) status works is ends
not_shown plan old new out out' (Create create.OutOfMemory) status works is ends = memory_ran_out plan old new out out' (Create create.OutOfMemory) status works is ends
not_shown plan old new out out' (Fix (fix.NoFile which)) status works is ends = not_told plan old new out out' _ status (absent_is which) works (λ d. (is d).fault) ends
not_shown plan old new out out' (Fix (fix.Head why)) status works is ends = not_told plan old new out out' _ status (head_is why) works (λ d. (is d).fault) ends
not_shown plan old new out out' (Fix (fix.Size have want)) status works is ends = not_told plan old new out out' _ status refl works (λ d. (is d).fault) ends
not_shown plan old new out out' (Fix (fix.Body have want)) status works is ends = not_told plan old new out out' _ status refl works (λ d. (is d).fault) ends
not_shown plan old new out out' (Fix fix.ReadFault) status works is ends = read_stopped plan old new out out' (Fix fix.ReadFault) status works is ends
not_shown plan old new out out' (Fix fix.WriteFault) status works is ends = write_stopped plan old new out out' (Fix fix.WriteFault) status works is ends
not_shown plan old new out out' (Fix fix.OutOfMemory) status works is ends = memory_ran_out plan old new out out' (Fix fix.OutOfMemory) status works is ends
not_shown plan old new out out' ReadFault status works is ends = read_stopped plan old new out out' ReadFault status works is ends
not_shown plan old new out out' WriteFault status works is ends = write_stopped plan old new out out' WriteFault status works is ends
not_shown plan old new out out' OutOfMemory status works is ends = memory_ran_out plan old new out out' OutOfMemory status works is ends

-- the same by what was answered
pub told_shown : (plan : Plan) (old new : DeskState) (out out' : SinkState) (answer : Result Demonstration DemoRefusal) (shown : Demonstration) (status : ℕ)
    → answer ≡ Ok shown → IsDemo plan image_name ecc_name old new answer → Ends (demo_lines shown.report) (status_for shown.whole) out out' status
    → RunsAlone (work_of_plan plan) old new out out' status
told_shown plan old new out out' answer shown status is it ends =
    let p = subst (λ (a : Result Demonstration DemoRefusal). IsDemo plan image_name ecc_name old new a) is it in
    shown_so plan old new out out' shown status p.works p.answer ends

pub told_not_shown : (plan : Plan) (old new : DeskState) (out out' : SinkState) (answer : Result Demonstration DemoRefusal) (why : DemoRefusal) (status : ℕ)
    → answer ≡ Err why → IsDemo plan image_name ecc_name old new answer → Ends (fault_line (demo_fault why)) (status_of (demo_fault why)) out out' status
    → RunsAlone (work_of_plan plan) old new out out' status
told_not_shown plan old new out out' answer why status is it ends =
    let p = subst (λ (a : Result Demonstration DemoRefusal). IsDemo plan image_name ecc_name old new a) is it in
    not_shown plan old new out out' why status p.works p.answer ends
