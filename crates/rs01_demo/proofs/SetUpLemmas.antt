-- What is left while a demonstration is set up.
use Rattle.std.proofs.Common.{◌≡◌, ◌≢◌, ◌≤◌, ◌*◌, ℕ, List, [], length, sym, ap, subst, ◌∙◌, inl, inr, arith}
use Rattle.std.specs.Prelude.{Err, None, Option, Result, Some}
use Rattle.std.specs.Option.{unwrap_or}
use Rattle.rs01_outside.specs.Files.{Files, SameElsewhere, bytes_of}
use Rattle.rs01_create.specs.Answer.{Creates, IsMade, Leaves}
use Rattle.rs01_create.specs.Create as create
use Rattle.rs01_create.specs.Create.{refusal_of}
use Rattle.rs01_create.specs.Unfinished.{IsUnfinished}
use Rattle.rs01_create.specs.declared.refusal.CreateRefusal.{CreateRefusal}
use Rattle.rs01_create.specs.declared.refusal.CreateRefusal.TheVariants.{EmptyImage, Marker, NoImage, OutOfMemory, ReadFault, TooManySectors, WriteFault}
use Rattle.rs01_ecchead.specs.EccFile.{ecc_file, head_fields}
use Rattle.rs01_ecchead.specs.Header.{head_bytes}
use Rattle.rs01_linear.specs.Marking.{IsMixed}
use Rattle.md5.specs.Md5.{md5}
use Rattle.rs01_report.specs.declared.reports.CreateReport.{CreateReport}
use Rattle.rs01_demo.specs.Faults.{IsFault}
use Rattle.rs01_demo.specs.Plan.{IsInRange, marked, original, protection}
use Rattle.rs01_demo.specs.Steps.{IsPartly, IsSetUp, SetsUp, Stops}
use Rattle.rs01_demo.specs.declared.plan.Plan.{Plan}
use Rattle.rs01_demo.specs.declared.refusal.DemoRefusal.{DemoRefusal}
use Rattle.rs01_demo.specs.declared.refusal.DemoRefusal.TheVariants as demo
use Rattle.rs01_demo.proofs.GeneratorLemmas.{length-image}
use Rattle.rs01_demo.proofs.NoMarkers.{never_refused}

-- the answer of a step that failed, as it is handed on
pub stops_so : (plan : Plan) (image ecc : List ℕ) (old new : Files) (answer : Result (List ℕ) DemoRefusal) (why : DemoRefusal)
    → answer ≡ Err why → Stops plan image ecc old new why → SetsUp plan image ecc old new answer
stops_so plan image ecc old new answer why is stops = subst (SetsUp plan image ecc old new) (sym is) stops

-- while the image is made
pub making_stops : (plan : Plan) (image ecc : List ℕ) (old new : Files) (why : DemoRefusal) → image ≢ ecc → IsFault why
    → SameElsewhere image old new → IsPartly (original plan) (old image) (new image) → Stops plan image ecc old new why
making_stops plan image ecc old new why differ fault elsewhere partly =
    record { fault = fault; left = inl (record { image_is = partly; ecc_is = elsewhere ecc (λ e. differ (sym e)) }) }

accepted : (plan : Plan) (image : List ℕ) (files : Files) → IsInRange plan → files image ≡ Some (original plan) → refusal_of (files image) ≡ None
accepted plan image files range is = ap refusal_of is ∙ never_refused plan.number plan.sectors range.some_sectors range.few_sectors

not_both : (o : Option CreateRefusal) (why : CreateRefusal) → o ≡ None → o ≡ Some why → ⊥
not_both o why e d = cc

leaves : (o : Option CreateRefusal) (header : List ℕ) (old new : Option (List ℕ)) → o ≡ None → Leaves o header old new → IsUnfinished header old new
leaves None header old new e left = left
leaves (Some why) header old new e left = cc

-- while its file is made: it isn't refused
unfinished : (plan : Plan) (image ecc : List ℕ) (old made new : Files) (why : CreateRefusal) → image ≢ ecc → IsInRange plan
    → made image ≡ Some (original plan) → SameElsewhere image old made → SameElsewhere ecc made new → IsFault (demo.Create why)
    → Leaves (refusal_of (made image)) (head_bytes (head_fields (bytes_of made image) plan.parity)) (made ecc) (new ecc)
    → Stops plan image ecc old new (demo.Create why)
unfinished plan image ecc old made new why differ range is elsewhere elsewhere' fault left =
    record {
      fault = fault;
      left = inr (inl (record {
        image_is = elsewhere' image differ ∙ is;
        ecc_is = subst (λ (o : Option (List ℕ)). IsUnfinished (head_bytes (head_fields (original plan) plan.parity)) o (new ecc)) (elsewhere ecc (λ e. differ (sym e)))
            (subst (λ (o : Option (List ℕ)). IsUnfinished (head_bytes (head_fields (unwrap_or o []) plan.parity)) (made ecc) (new ecc)) is
            (leaves (refusal_of (made image)) _ _ _ (accepted plan image made range is) left));
      }));
    }

pub protecting_stops : (plan : Plan) (image ecc : List ℕ) (old made new : Files) (why : CreateRefusal) → image ≢ ecc → IsInRange plan
    → made image ≡ Some (original plan) → SameElsewhere image old made → SameElsewhere ecc made new
    → Creates image ecc plan.parity made new (Err why) → Stops plan image ecc old new (demo.Create why)
protecting_stops plan image ecc old made new NoImage differ range is elsewhere elsewhere' creates =
    absurd (not_both (refusal_of (made image)) NoImage (accepted plan image made range is) creates.refused)
protecting_stops plan image ecc old made new EmptyImage differ range is elsewhere elsewhere' creates =
    absurd (not_both (refusal_of (made image)) EmptyImage (accepted plan image made range is) creates.refused)
protecting_stops plan image ecc old made new (TooManySectors n) differ range is elsewhere elsewhere' creates =
    absurd (not_both (refusal_of (made image)) (TooManySectors n) (accepted plan image made range is) creates.refused)
protecting_stops plan image ecc old made new (Marker s) differ range is elsewhere elsewhere' creates =
    absurd (not_both (refusal_of (made image)) (Marker s) (accepted plan image made range is) creates.refused)
protecting_stops plan image ecc old made new ReadFault differ range is elsewhere elsewhere' creates =
    unfinished plan image ecc old made new ReadFault differ range is elsewhere elsewhere' tt creates
protecting_stops plan image ecc old made new WriteFault differ range is elsewhere elsewhere' creates =
    unfinished plan image ecc old made new WriteFault differ range is elsewhere elsewhere' tt creates.1
protecting_stops plan image ecc old made new OutOfMemory differ range is elsewhere elsewhere' creates =
    unfinished plan image ecc old made new OutOfMemory differ range is elsewhere elsewhere' tt creates

-- the file was made
pub protection_is : (plan : Plan) (image ecc : List ℕ) (made new : Files) (report : CreateReport) → made image ≡ Some (original plan)
    → IsMade image ecc plan.parity made new report → new ecc ≡ Some (protection plan)
protection_is plan image ecc made new report is it =
    it.file.there ∙ ap (λ (o : Option (List ℕ)). Some (ecc_file (unwrap_or o []) plan.parity)) is

pub sum_is : (plan : Plan) (image ecc : List ℕ) (made new : Files) (report : CreateReport) → made image ≡ Some (original plan)
    → IsMade image ecc plan.parity made new report → report.image_sum ≡ md5 (original plan)
unfolding create.report_of
sum_is plan image ecc made new report is it =
    ap (λ (r : CreateReport). r.image_sum) it.told ∙ ap (λ (o : Option (List ℕ)). md5 (unwrap_or o [])) is

-- the sectors to be marked are there
pub room : (plan : Plan) → IsInRange plan → 2048 * plan.lost ≤ length (original plan)
room plan range = omega (arith, range.lost_are_there, length-image plan.number plan.sectors)

-- all is set up
pub set_up_is : (plan : Plan) (image ecc : List ℕ) (made protected new : Files) (report : CreateReport) → image ≢ ecc → IsInRange plan
    → made image ≡ Some (original plan) → IsMade image ecc plan.parity made protected report → SameElsewhere image protected new
    → ((bytes : List ℕ) → 2048 * plan.lost ≤ length bytes → protected image ≡ Some bytes → new image ≡ Some (marked bytes plan.lost))
    → IsSetUp plan image ecc new report.image_sum
set_up_is plan image ecc made protected new report differ range is it elsewhere marks =
    record {
      image_is = marks (original plan) (room plan range) (it.file.elsewhere image differ ∙ is);
      ecc_is = elsewhere ecc (λ e. differ (sym e)) ∙ protection_is plan image ecc made protected report is it;
      sum_is = sum_is plan image ecc made protected report is it;
    }

-- while sectors are marked
pub marking_stops : (plan : Plan) (image ecc : List ℕ) (old made protected new : Files) (report : CreateReport) → image ≢ ecc → IsInRange plan
    → made image ≡ Some (original plan) → IsMade image ecc plan.parity made protected report → SameElsewhere image protected new
    → ((bytes : List ℕ) → 2048 * plan.lost ≤ length bytes → protected image ≡ Some bytes → IsMixed (marked bytes plan.lost) bytes (new image))
    → Stops plan image ecc old new demo.WriteFault
marking_stops plan image ecc old made protected new report differ range is it elsewhere marks =
    record {
      fault = tt;
      left = inr (inr (inl (record {
        image_is = marks (original plan) (room plan range) (it.file.elsewhere image differ ∙ is);
        ecc_is = elsewhere ecc (λ e. differ (sym e)) ∙ protection_is plan image ecc made protected report is it;
      })));
    }
