-- What is left and told of a repair.
use Rattle.std.proofs.Common.{◌≡◌, ◌≢◌, ◌≤◌, ◌++◌, ℕ, Bool, false, List, [], length, refl, sym, ap, subst, ◌∙◌, inl, inr, arith}
use Rattle.std.specs.Prelude.{Err, IsOkAnd, Ok, Option, Result, Some, codes, filter}
use Rattle.std.specs.List.{range_with_len}
use Rattle.std.specs.Int.{to_le_bytes, w32}
use Rattle.std.specs.Str.{bytes_eq}
use Rattle.std.specs.Option.{unwrap_or}
use Rattle.std.proofs.lemmas.List.{append_assoc, length-append}
use Rattle.std.proofs.lemmas.List.FromFn.{length-range_with_len}
use Rattle.std.proofs.lemmas.List.Sums.{count_by-le-length, length-filter}
use Rattle.md5.specs.Md5.{md5}
use Rattle.md5.proofs.StandardFacts.{length-md5}
use Rattle.rs01_lists.specs.Bytes.{part}
use Rattle.rs01_lists.proofs.Parts.{first, skip}
use Rattle.rs01_layers.specs.Sectors.{sector, sectors_of}
use Rattle.rs01_outside.specs.Files.{Files, SameElsewhere, bytes_of}
use Rattle.rs01_ecchead.specs.EccFile.{body, ecc_file, head_fields, mark_sector_of}
use Rattle.rs01_ecchead.specs.Header.{Fields, end_bytes, front_bytes, head_bytes, number_bytes}
use Rattle.rs01_ecchead.specs.Opened.{Opened, opened}
use Rattle.rs01_ecchead.specs.ReadAgain.{IsOfImage}
use Rattle.rs01_ecchead.specs.declared.opened.EccRefusal.{EccRefusal}
use Rattle.rs01_ecchead.proofs.ReadAgain.{read_again}
use Rattle.rs01_fix.specs.Answer.{MayStand, Repaired, answer_with, fix_answer, repaired}
use Rattle.rs01_fix.specs.Outcome.{IsOfFiles, IsOfRepair, Refuses, Repairs}
use Rattle.rs01_fix.specs.Repair as repair
use Rattle.rs01_fix.specs.declared.refusal.FixRefusal.{FixRefusal}
use Rattle.rs01_fix.specs.declared.refusal.FixRefusal.TheVariants.{Body, Head, NoFile, OutOfMemory, ReadFault, Size, WriteFault}
use Rattle.rs01_report.specs.declared.reports.FixReport.{FixReport}
use Rattle.rs01_demo.specs.Answer.{Demos, HasShown}
use Rattle.rs01_demo.specs.Faults.{IsFault, walk_refusal}
use Rattle.rs01_ecchead.specs.declared.walk.WalkFault.{WalkFault}
use Rattle.rs01_ecchead.specs.declared.walk.WalkFault.TheVariants as walk
use Rattle.rs01_demo.specs.Plan.{IsInRange, damaged, is_whole, original, original as plan_image, outcome, protection, report_of}
use Rattle.rs01_demo.specs.Steps.{IsFound, IsLeft, IsSetUp, IsToldOf, Stops}
use Rattle.rs01_demo.specs.declared.demonstration.Demonstration.{Demonstration}
use Rattle.rs01_demo.specs.declared.plan.Plan.{Plan}
use Rattle.rs01_demo.specs.declared.refusal.DemoRefusal.{DemoRefusal}
use Rattle.rs01_demo.specs.declared.refusal.DemoRefusal.TheVariants as demo
use Rattle.rs01_demo.proofs.GeneratorLemmas.{length-image}

-- the digest of the body stands in the header
pub body_sum_at : (bytes : List ℕ) (r : ℕ) → part (ecc_file bytes r) 52 16 ≡ md5 (body bytes r)
unfolding ecc_file head_bytes front_bytes head_fields
body_sum_at bytes r =
    let f = head_fields bytes r in
    let rest = (number_bytes f ++ end_bytes f) ++ body bytes r in
    let mark = md5 (sector bytes (mark_sector_of bytes)) in
    let sum = md5 bytes in
    let own = md5 (body bytes r) in
    let t4 = own ++ rest in
    let t3 = sum ++ t4 in
    let t2 = mark ++ t3 in
    let t1 = to_le_bytes w32 0 ++ t2 in
    ap (λ xs. part xs 52 16) (shape (codes "*dvdisaster*RS01") (to_le_bytes w32 0) mark sum own (number_bytes f ++ end_bytes f) (body bytes r))
    ∙ skip (codes "*dvdisaster*RS01") t1 16 36 16 refl
    ∙ skip (to_le_bytes w32 0) t2 4 32 16 refl
    ∙ skip mark t3 16 16 16 (length-md5 (sector bytes (mark_sector_of bytes)))
    ∙ skip sum t4 16 0 16 (length-md5 bytes)
    ∙ first own rest 16 (length-md5 (body bytes r))
  where
    shape : (a b c d e f g : List ℕ) → ((a ++ (b ++ (c ++ (d ++ e)))) ++ f) ++ g ≡ a ++ (b ++ (c ++ (d ++ (e ++ (f ++ g)))))
    shape a b c d e f g = simp append_assoc

-- an answer of which more is known
pub with_more : {T E : Type 0} (r : Result T E) (P Q : T → Type 0) → IsOkAnd r P → ((x : T) → P x → Q x) → IsOkAnd r Q
with_more (Ok x) P Q is more = more x is
with_more (Err why) P Q is more = absurd is

both : {T E : Type 0} (r : Result T E) (P Q : T → Type 0) → IsOkAnd r P → IsOkAnd r Q → IsOkAnd r (λ x. P x × Q x)
both (Ok x) P Q one other = (one, other)
both (Err why) P Q one other = absurd one

few : (p : ℕ → Bool) (n : ℕ) → length (filter p (range_with_len 0 n)) ≤ n
few p n = omega (arith, length-filter p (range_with_len 0 n), count_by-le-length p (range_with_len 0 n), length-range_with_len 0 n)

-- how many sectors a report may name
pub record IsFew (most : ℕ) (repaired : Repaired) : Type 0 where
  pub restored : length repaired.report.restored ≤ most
  pub lost : length repaired.report.lost ≤ most

few_in : (c : Opened) (y : List ℕ) → IsFew c.fields.sectors (repaired c y false)
unfolding repaired repair.report_by repair.restored_by repair.lost_by
few_in c y = record { restored = few _ c.fields.sectors; lost = few _ c.fields.sectors }

few_by : (answer : Result Opened EccRefusal) (bytes y : List ℕ) (r : ℕ) → IsOkAnd answer (IsOfImage bytes r)
    → IsOkAnd (answer_with answer (Some y) false) (IsFew (sectors_of (length bytes)))
unfolding answer_with head_fields
few_by (Ok c) bytes y r is = subst (λ n. IsFew n (repaired c y false)) (ap (λ (f : Fields). f.sectors) is.fields) (few_in c y)
few_by (Err why) bytes y r is = absurd is

-- the damaged image is repaired, whatever comes of it
pub outcome_few : (plan : Plan) → IsInRange plan → IsOkAnd (outcome plan) (IsFew plan.sectors)
outcome_few plan range =
    let long = length-image plan.number plan.sectors in
    let count : sectors_of (length (original plan)) ≡ plan.sectors = ap sectors_of long ∙ omega arith in
    subst (λ n. IsOkAnd (outcome plan) (IsFew n)) count
    (few_by (opened (protection plan)) (original plan) (damaged plan) plan.parity
    (read_again (original plan) plan.parity (omega (arith, long, range.some_sectors)) (omega (arith, count, range.few_sectors)) range.least_parity range.most_parity))

-- the answer to the two files is the outcome
pub answer_is : (plan : Plan) (image ecc : List ℕ) (files : Files) (sum : List ℕ) → IsSetUp plan image ecc files sum
    → fix_answer (files ecc) (files image) false ≡ outcome plan
answer_is plan image ecc files sum is = λ i. fix_answer (is.ecc_is i) (is.image_is i) false

refuted : (r : Result Repaired FixRefusal) (P : Repaired → Type 0) (why : FixRefusal) → IsOkAnd r P → r ≡ Err why → ⊥
refuted (Ok x) P why is e = cc
refuted (Err w) P why is e = is

-- a repair that isn't done, of files that were set up
fault_only : (plan : Plan) (why : FixRefusal) → IsInRange plan → (IsOfFiles why → outcome plan ≡ Err why) → IsOfRepair why
fault_only plan (NoFile which) range is = absurd (refuted (outcome plan) _ (NoFile which) (outcome_few plan range) (is tt))
fault_only plan (Head why) range is = absurd (refuted (outcome plan) _ (Head why) (outcome_few plan range) (is tt))
fault_only plan (Size have want) range is = absurd (refuted (outcome plan) _ (Size have want) (outcome_few plan range) (is tt))
fault_only plan (Body have want) range is = absurd (refuted (outcome plan) _ (Body have want) (outcome_few plan range) (is tt))
fault_only plan ReadFault range is = tt
fault_only plan WriteFault range is = tt
fault_only plan OutOfMemory range is = tt

pub repairing_stops : (plan : Plan) (image ecc : List ℕ) (old set new : Files) (sum : List ℕ) (why : FixRefusal) → image ≢ ecc → IsInRange plan
    → IsSetUp plan image ecc set sum → SameElsewhere image set new → Refuses image ecc false set new why → Stops plan image ecc old new (demo.Fix why)
repairing_stops plan image ecc old set new sum why differ range is elsewhere refuses =
    let answer = answer_is plan image ecc set sum is in
    record {
      fault = fault_only plan why range (λ of. sym answer ∙ refuses.refused of);
      left = inr (inr (inr (inl (record {
        image_is = subst (λ (o : Option (List ℕ)). MayStand (outcome plan) o (new image)) is.image_is
            (subst (λ (r : Result Repaired FixRefusal). MayStand r (set image) (new image)) answer refuses.left);
        ecc_is = elsewhere ecc (λ e. differ (sym e)) ∙ is.ecc_is;
      }))));
    }

-- what became of the image that was set up
pub repaired_so : (plan : Plan) (image ecc : List ℕ) (set new : Files) (sum : List ℕ) (told : FixReport) → IsInRange plan → IsSetUp plan image ecc set sum
    → IsOkAnd (fix_answer (set ecc) (set image) false) (Repairs image set new told)
    → IsOkAnd (outcome plan) (λ x. Repairs image set new told x × IsFew plan.sectors x)
repaired_so plan image ecc set new sum told range is repairs =
    both (outcome plan) (Repairs image set new told) (IsFew plan.sectors)
    (subst (λ (r : Result Repaired FixRefusal). IsOkAnd r (Repairs image set new told)) (answer_is plan image ecc set sum is) repairs)
    (outcome_few plan range)

left_by : (plan : Plan) (image ecc : List ℕ) (set fixed new : Files) (sum : List ℕ) (told : FixReport) (x : Repaired) → image ≢ ecc → IsSetUp plan image ecc set sum
    → Repairs image set fixed told x → new ≡ fixed → IsLeft plan image ecc new x
left_by plan image ecc set fixed new sum told x differ is repairs same = record {
  image_is = ap (λ (f : Files). f image) same ∙ repairs.file.there;
  ecc_is = ap (λ (f : Files). f ecc) same ∙ repairs.file.elsewhere ecc (λ e. differ (sym e)) ∙ is.ecc_is;
}

-- while it is told
pub telling_stops : (plan : Plan) (image ecc : List ℕ) (old set fixed new : Files) (sum : List ℕ) (told : FixReport) (why : WalkFault) → image ≢ ecc → IsInRange plan
    → IsSetUp plan image ecc set sum → IsOkAnd (fix_answer (set ecc) (set image) false) (Repairs image set fixed told) → new ≡ fixed
    → Stops plan image ecc old new (walk_refusal why)
telling_stops plan image ecc old set fixed new sum told why differ range is repairs same = record {
  fault = fault_is why;
  left = inr (inr (inr (inr (with_more (outcome plan) _ _ (repaired_so plan image ecc set fixed sum told range is repairs)
      (λ x p. left_by plan image ecc set fixed new sum told x differ is p.0 same)))));
}
  where
    fault_is : (why : WalkFault) → IsFault (walk_refusal why)
    fault_is walk.ReadFault = tt
    fault_is walk.OutOfMemory = tt

-- it is told
pub shown_so : (plan : Plan) (image ecc : List ℕ) (set fixed new : Files) (sum : List ℕ) (told : FixReport) (shown : Demonstration) → image ≢ ecc → IsInRange plan
    → IsSetUp plan image ecc set sum → IsOkAnd (fix_answer (set ecc) (set image) false) (Repairs image set fixed told) → new ≡ fixed
    → ((x : Repaired) → IsFound plan image ecc fixed sum told x → IsToldOf plan x shown)
    → IsOkAnd (outcome plan) (HasShown plan image ecc new shown)
shown_so plan image ecc set fixed new sum told shown differ range is repairs same tells =
    with_more (outcome plan) _ _ (repaired_so plan image ecc set fixed sum told range is repairs)
    (λ x p.
    let here = left_by plan image ecc set fixed fixed sum told x differ is p.0 refl in
    record {
      left = left_by plan image ecc set fixed new sum told x differ is p.0 same;
      told = tells x (record {
        image_is = here.image_is;
        ecc_is = here.ecc_is;
        sum_is = is.sum_is;
        fixed_is = p.0.report;
        few_restored = omega (arith, p.1.restored, range.few_sectors);
        few_lost = omega (arith, p.1.lost, range.few_sectors);
      });
    })

-- what is told of what was found
pub told_is : (plan : Plan) (image ecc : List ℕ) (files : Files) (image_sum body_sum : List ℕ) (fixed : FixReport) (x : Repaired) (restored lost : ℕ) (original whole : Bool)
    → IsFound plan image ecc files image_sum fixed x
    → body_sum ≡ part (bytes_of files ecc) 52 16
    → (length fixed.restored ≤ 65536 → restored ≡ length fixed.restored) → (length fixed.lost ≤ 65536 → lost ≡ length fixed.lost)
    → original ≡ bytes_eq (bytes_of files image) (plan_image plan)
    → whole ≡ is_whole fixed
    → IsToldOf plan x (record {
      report = record {
        number = plan.number;
        sectors = plan.sectors;
        parity = plan.parity;
        lost_asked = plan.lost;
        image_sum = image_sum;
        body_sum = body_sum;
        restored = restored;
        lost = lost;
        original = original;
      };
      whole = whole;
    })
unfolding report_of
told_is plan image ecc files image_sum body_sum fixed x restored lost original whole found sum r l o w =
    let same = found.fixed_is in
    let r' : restored ≡ length x.report.restored =
    r (omega (arith, ap (λ (f : FixReport). length f.restored) same, found.few_restored)) ∙ ap (λ (f : FixReport). length f.restored) same in
    let l' : lost ≡ length x.report.lost =
    l (omega (arith, ap (λ (f : FixReport). length f.lost) same, found.few_lost)) ∙ ap (λ (f : FixReport). length f.lost) same in
    let b' : body_sum ≡ md5 (body (plan_image plan) plan.parity) =
    sum ∙ ap (λ (o : Option (List ℕ)). part (unwrap_or o []) 52 16) found.ecc_is ∙ body_sum_at (plan_image plan) plan.parity in
    let o' : original ≡ bytes_eq x.file (plan_image plan) = o ∙ ap (λ (o : Option (List ℕ)). bytes_eq (unwrap_or o []) (plan_image plan)) found.image_is in
    record {
      report_is = λ i. record {
        number = plan.number;
        sectors = plan.sectors;
        parity = plan.parity;
        lost_asked = plan.lost;
        image_sum = found.sum_is i;
        body_sum = b' i;
        restored = r' i;
        lost = l' i;
        original = o' i;
      };
      whole_is = w ∙ ap is_whole same;
    }

-- there is room for a header in the file
pub has_header : (plan : Plan) (files : Files) (ecc : List ℕ) → files ecc ≡ Some (protection plan) → 68 ≤ length (bytes_of files ecc)
unfolding ecc_file head_bytes front_bytes head_fields
has_header plan files ecc is =
    let bytes = plan_image plan in
    let f = head_fields bytes plan.parity in
    let mark = md5 (sector bytes (mark_sector_of bytes)) in
    let long : 68 ≤ length (protection plan) =
    omega (
      arith,
      length-append (head_bytes f) (body bytes plan.parity),
      length-append (front_bytes f) (number_bytes f ++ end_bytes f),
      length-append (codes "*dvdisaster*RS01") (to_le_bytes w32 0 ++ (mark ++ (md5 bytes ++ md5 (body bytes plan.parity)))),
      length-append (to_le_bytes w32 0) (mark ++ (md5 bytes ++ md5 (body bytes plan.parity))),
      length-append mark (md5 bytes ++ md5 (body bytes plan.parity)),
      length-append (md5 bytes) (md5 (body bytes plan.parity)),
      length-md5 (sector bytes (mark_sector_of bytes)),
      length-md5 bytes,
      length-md5 (body bytes plan.parity),
    ) in
    omega (arith, long, ap (λ (o : Option (List ℕ)). length (unwrap_or o [])) is)

-- the answer of a step that failed, as it is handed on
pub stops_then : (plan : Plan) (image ecc : List ℕ) (old new : Files) (answer : Result Demonstration DemoRefusal) (why : DemoRefusal)
    → answer ≡ Err why → Stops plan image ecc old new why → Demos plan image ecc old new answer
stops_then plan image ecc old new answer why is stops = subst (Demos plan image ecc old new) (sym is) stops
