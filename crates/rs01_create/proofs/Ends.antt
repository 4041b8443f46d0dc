-- The ways that every attempt to make a file ends, however its windows are worked.
use Rattle.std.proofs.Common.{◌≡◌, ◌≢◌, ◌∙◌, ℕ, ◌<◌, List, ◌++◌, ap, subst, sym, refl, arith, inl, Bool, true, false}
use Rattle.std.specs.Prelude.{IsTrue, Option, Some, None, Result, Ok, Err}
use Rattle.rs01_lists.specs.Bytes.{zeros}
use Rattle.rs01_outside.specs.DeskState.{DeskState, OnlyChanges, OnlyReads, WorksOn}
use Rattle.rs01_outside.specs.Files.{Becomes, Files, bytes_of}
use Rattle.rs01_outside.proofs.States.{works-changes, works-reads, works-then}
use Rattle.rs01_outside.specs.declared.Failed.{Failed}
use Rattle.rs01_ecchead.specs.EccFile.{head_fields, sum_bytes}
use Rattle.rs01_ecchead.specs.Header.{head_bytes}
use Rattle.rs01_report.specs.declared.reports.CreateReport.{CreateReport}
use Rattle.rs01_create.specs.Answer.{Answers, Creates, IsOfMaking, Leaves, LeavesUnder, Makes, is_read_fault, is_write_fault}
use Rattle.rs01_create.specs.Beginning.{IsStart}
use Rattle.rs01_create.specs.Create.{refusal_of}
use Rattle.rs01_create.specs.Creating.{IsCreate, IsStarted, IsWorked}
use Rattle.rs01_create.specs.Ending.{IsWhole, TellsEnd}
use Rattle.rs01_create.specs.Looking.{IsFoundOf, LooksAt}
use Rattle.rs01_layers.specs.Extents.{IsExtentOf}
use Rattle.rs01_create.specs.Making.{CountsAs, IsQuiet, Leads, Moment, faults_of, moment}
use Rattle.rs01_create.specs.Unfinished.{IsUnfinished}
use Rattle.rs01_create.specs.declared.course.Course.{Course}
use Rattle.rs01_create.specs.declared.found.Found.{Found}
use Rattle.rs01_create.specs.declared.plan.Plan.{Plan}
use Rattle.rs01_create.specs.declared.refusal.CreateRefusal.{CreateRefusal}
use Rattle.rs01_create.specs.declared.refusal.CreateRefusal.TheVariants.{NoImage, EmptyImage, TooManySectors, Marker, ReadFault, WriteFault, OutOfMemory}
use Rattle.rs01_create.proofs.Makings.{at_start, between, ended, stands_whole}
use Rattle.rs01_create.proofs.Writes.{headless_begun}

-- what a refusal says doesn't depend on what would have been answered in its place
same_read : (A B : Type 0) (why : CreateRefusal) → is_read_fault {T = A} (Err why) ≡ is_read_fault {T = B} (Err why)
same_read A B NoImage = refl
same_read A B EmptyImage = refl
same_read A B (TooManySectors n) = refl
same_read A B (Marker s) = refl
same_read A B ReadFault = refl
same_read A B WriteFault = refl
same_read A B OutOfMemory = refl

same_write : (A B : Type 0) (why : CreateRefusal) → is_write_fault {T = A} (Err why) ≡ is_write_fault {T = B} (Err why)
same_write A B NoImage = refl
same_write A B EmptyImage = refl
same_write A B (TooManySectors n) = refl
same_write A B (Marker s) = refl
same_write A B ReadFault = refl
same_write A B WriteFault = refl
same_write A B OutOfMemory = refl

same_making : (A B : Type 0) (why : CreateRefusal) → IsOfMaking {T = A} (Err why) → IsOfMaking {T = B} (Err why)
same_making A B NoImage of = of
same_making A B EmptyImage of = of
same_making A B (TooManySectors n) of = of
same_making A B (Marker s) of = of
same_making A B ReadFault of = of
same_making A B WriteFault of = of
same_making A B OutOfMemory of = of

-- what may be left where no file has changed
leaves_same : (o : Option CreateRefusal) (header : List ℕ) (old new : Option (List ℕ)) → new ≡ old → Leaves o header old new
leaves_same (Some why) header old new same = same
leaves_same None header old new same = inl same

unchanged_under : (image ecc : List ℕ) (r : ℕ) (old new : Files) → new ≡ old → LeavesUnder image ecc r old new
unchanged_under image ecc r old new same =
    leaves_same (refusal_of (old image)) (head_bytes (head_fields (bytes_of old image) r)) (old ecc) (new ecc) (ap (λ (f : Files). f ecc) same)

-- the image is refused
refused_answer : (image ecc : List ℕ) (r : ℕ) (old new : DeskState) (why : CreateRefusal) → LooksAt old image (Err why) → (IsTrue old.tells → new.files ≡ old.files)
    → ((let r : Result Found CreateRefusal = Err why in r) ≡ Err WriteFault → ⊥) → Answers image ecc r old new (Err why)
refused_answer image ecc r old new NoImage looks same never = λ t. record { refused = looks t; unchanged = same t }
refused_answer image ecc r old new EmptyImage looks same never = λ t. record { refused = looks t; unchanged = same t }
refused_answer image ecc r old new (TooManySectors n) looks same never = λ t. record { refused = looks t; unchanged = same t }
refused_answer image ecc r old new (Marker s) looks same never = λ t. record { refused = looks t; unchanged = same t }
refused_answer image ecc r old new ReadFault looks same never = λ t. unchanged_under image ecc r old.files new.files (same t)
refused_answer image ecc r old new WriteFault looks same never = absurd (never refl)
refused_answer image ecc r old new OutOfMemory looks same never = λ t. unchanged_under image ecc r old.files new.files (same t)

not_writing : (why : CreateRefusal) → ((let r : Result Found CreateRefusal = Err why in r) ≡ Err WriteFault → ⊥) → is_write_fault {T = CreateReport} (Err why) ≡ false
not_writing NoImage never = refl
not_writing EmptyImage never = refl
not_writing (TooManySectors n) never = refl
not_writing (Marker s) never = refl
not_writing ReadFault never = refl
not_writing WriteFault never = absurd (never refl)
not_writing OutOfMemory never = refl

pub refused : (image ecc : List ℕ) (r : ℕ) (old new : DeskState) (why : CreateRefusal) → OnlyReads old new (is_read_fault {T = Found} (Err why)) → LooksAt old image (Err why)
    → ((n : ℕ) → (let r : Result Found CreateRefusal = Err why in r) ≡ Err (TooManySectors n) → 16777215 < n)
    → ((let r : Result Found CreateRefusal = Err why in r) ≡ Err WriteFault → ⊥) → IsCreate image ecc r old new (Err why)
refused image ecc r old new why reads looks many never = record {
  works = subst (λ b. WorksOn ecc old new b (is_write_fault {T = CreateReport} (Err why))) (same_read Found CreateReport why)
      (subst (λ b. WorksOn ecc old new (is_read_fault {T = Found} (Err why)) b) (sym (not_writing why never))
      (works-reads ecc old new (is_read_fault {T = Found} (Err why)) reads));
  answer = refused_answer image ecc r old new why looks reads.unchanged never;
  many = λ n e. let h : why ≡ TooManySectors n = cc in many n (ap (λ (w : CreateRefusal). let r : Result Found CreateRefusal = Err w in r) h);
}

-- memory ran out before the file was begun
pub lacking : (image ecc : List ℕ) (r : ℕ) (old new : DeskState) → OnlyReads old new false → IsCreate image ecc r old new (Err OutOfMemory)
lacking image ecc r old new reads = record {
  works = works-reads ecc old new false reads;
  answer = λ t. unchanged_under image ecc r old.files new.files (reads.unchanged t);
  many = λ n e. absurd (let h : ⊥ = cc in h);
}

-- the image isn't refused
left : (image ecc : List ℕ) (r : ℕ) (old new : Files) → refusal_of (old image) ≡ None → IsUnfinished (head_bytes (head_fields (bytes_of old image) r)) (old ecc) (new ecc)
    → LeavesUnder image ecc r old new
left image ecc r old new accepted is =
    subst (λ (o : Option CreateRefusal). Leaves o (head_bytes (head_fields (bytes_of old image) r)) (old ecc) (new ecc)) (sym accepted) is

created : (image ecc : List ℕ) (r : ℕ) (old new : Files) (result : Result CreateReport CreateRefusal) → IsOfMaking result → refusal_of (old image) ≡ None
    → Makes (bytes_of old image) r ecc old new result → Creates image ecc r old new result
created image ecc r old new (Ok report) of accepted makes = record { accepted = accepted; file = makes.0; told = makes.1 }
created image ecc r old new (Err NoImage) of accepted makes = absurd of
created image ecc r old new (Err EmptyImage) of accepted makes = absurd of
created image ecc r old new (Err (TooManySectors n)) of accepted makes = absurd of
created image ecc r old new (Err (Marker s)) of accepted makes = absurd of
created image ecc r old new (Err ReadFault) of accepted makes = left image ecc r old new accepted makes
created image ecc r old new (Err WriteFault) of accepted makes = (accepted, left image ecc r old new accepted makes)
created image ecc r old new (Err OutOfMemory) of accepted makes = left image ecc r old new accepted makes

ends : (image ecc : List ℕ) (r : ℕ) (old seen new : DeskState) (found : Found) (result : Result CreateReport CreateRefusal) → OnlyReads old seen false → LooksAt old image (Ok found)
    → found.plan.shape.parity ≡ r → WorksOn ecc seen new (is_read_fault result) (is_write_fault result) → IsOfMaking result
    → (IsTrue seen.tells → Makes (bytes_of seen.files image) found.plan.shape.parity ecc seen.files new.files result) → IsCreate image ecc r old new result
ends image ecc r old seen new found result reads accepts parity works of makes = record {
  works = works-then ecc old seen new (is_read_fault result) (is_write_fault result) (works-reads ecc old seen false reads) works;
  answer = λ t. created image ecc r old.files new.files result of (accepts t).accepted
      (subst (λ (k : ℕ). Makes (bytes_of old.files image) k ecc old.files new.files result) parity
      (subst (λ (f : Files). Makes (bytes_of f image) found.plan.shape.parity ecc f new.files result) (reads.unchanged t) (makes (subst IsTrue (sym reads.tells) t))));
  many = λ n e. absurd (subst (λ (a : Result CreateReport CreateRefusal). IsOfMaking a) e of);
}

found_at : (image : List ℕ) (old seen : DeskState) (found : Found) → OnlyReads old seen false → LooksAt old image (Ok found) → IsTrue seen.tells → IsFoundOf (bytes_of seen.files image) found
found_at image old seen found reads accepts t =
    let t0 = subst IsTrue reads.tells t in
    subst (λ (f : Files). IsFoundOf (bytes_of f image) found) (sym (reads.unchanged t0)) (accepts t0).found_is

summed_at : (image : List ℕ) (old seen : DeskState) (sums : List ℕ) → OnlyReads old seen false → (IsTrue old.tells → sums ≡ sum_bytes (bytes_of old.files image))
    → IsTrue seen.tells → sums ≡ sum_bytes (bytes_of seen.files image)
summed_at image old seen sums reads summed t =
    let t0 = subst IsTrue reads.tells t in
    subst (λ (f : Files). sums ≡ sum_bytes (bytes_of f image)) (sym (reads.unchanged t0)) (summed t0)

-- what was found of an image stays so when the checksums are let go
pub let_go : (old : DeskState) (image : List ℕ) (one other : Found) → LooksAt old image (Ok one) → other.plan ≡ one.plan → other.image_sum ≡ one.image_sum
    → other.fingerprint ≡ one.fingerprint → LooksAt old image (Ok other)
let_go old image one other accepts plan image_sum fingerprint t =
    let is = accepts t in
    record {
      there = is.there;
      accepted = is.accepted;
      found_is = record {
        extended = subst (λ (p : Plan). IsExtentOf (bytes_of old.files image) p.extent) (sym plan) is.found_is.extended;
        image_sum = image_sum ∙ is.found_is.image_sum;
        fingerprint = fingerprint ∙ is.found_is.fingerprint;
      };
    }

-- the file was begun
pub is_started : (image ecc : List ℕ) (r : ℕ) (old seen now : DeskState) (found : Found) (sums : List ℕ) (course : Course) → image ≢ ecc → OnlyReads old seen false
    → LooksAt old image (Ok found) → (IsTrue old.tells → sums ≡ sum_bytes (bytes_of old.files image)) → found.plan.shape.parity ≡ r → OnlyChanges ecc seen now false
    → (IsTrue seen.tells → Becomes ecc (zeros 4096 ++ sums) seen.files now.files) → IsStart sums course → IsStarted image ecc r old now found course
is_started image ecc r old seen now found sums course apart reads accepts summed parity changes begun start = record {
  seen = seen;
  reads = reads;
  accepts = accepts;
  parity = parity;
  changes = changes;
  work = at_start image ecc seen now found sums course apart (found_at image old seen found reads accepts) (summed_at image old seen sums reads summed) changes begun start;
  none = start.next ∙ sym start.first;
}

-- the counts after the windows
counted : (image ecc : List ℕ) (start now : DeskState) (plan : Plan) (begun course : Course) (reading writing : Bool)
    → Leads (moment start image ecc plan (faults_of start) begun) (moment now image ecc plan (faults_of start) course) → CountsAs (faults_of start) now reading writing
    → WorksOn ecc start now reading writing
counted image ecc start now plan begun course reading writing leads counts = record {
  tells = leads.tells;
  elsewhere = leads.elsewhere;
  reads_later = counts.reads_later;
  writes_later = counts.writes_later;
  read_rose = counts.read_rose;
  read_kept = counts.read_kept;
  write_rose = counts.write_rose;
  write_kept = counts.write_kept;
}

quiet : (m : Moment) → IsQuiet m → CountsAs m.kept m.state false false
quiet m is = record {
  reads_later = omega (arith, is.reads);
  writes_later = omega (arith, is.writes);
  read_rose = λ h. cc;
  read_kept = λ h. is.reads;
  write_rose = λ h. cc;
  write_kept = λ h. is.writes;
}

-- what was told of the windows, by another name
as_told : {T : Type 0} (image ecc : List ℕ) (r : ℕ) (old now : DeskState) (found : Found) (course : Course) (one other : Result T CreateRefusal) → one ≡ other
    → IsWorked image ecc r old now found course one → IsWorked image ecc r old now found course other
as_told {T} image ecc r old now found course one other same w = subst (λ (a : Result T CreateRefusal). IsWorked image ecc r old now found course a) same w

-- the windows were given up
pub after_stop : {T : Type 0} (image ecc : List ℕ) (r : ℕ) (old now : DeskState) (found : Found) (course : Course) (added : Result T CreateRefusal) (why : CreateRefusal)
    → added ≡ Err why → IsWorked image ecc r old now found course added → IsCreate image ecc r old now (Err why)
after_stop {T} image ecc r old now found course added why is given =
    let w : IsWorked {T = T} image ecc r old now found course (Err why) = as_told image ecc r old now found course added (Err why) is given in
    let s = w.started in
    let stops = w.work.stops in
    let works : WorksOn ecc s.seen now (is_read_fault {T = Unit {0}} (Err why)) (is_write_fault {T = Unit {0}} (Err why)) =
    works-then ecc s.seen w.start now _ _ (works-changes ecc s.seen w.start false s.changes)
    (counted image ecc w.start now found.plan w.begun course _ _ w.work.leads stops.counts) in
    ends image ecc r old s.seen now found (Err why) s.reads s.accepts s.parity
    (subst (λ b. WorksOn ecc s.seen now b (is_write_fault {T = CreateReport} (Err why))) (same_read (Unit {0}) CreateReport why)
    (subst (λ b. WorksOn ecc s.seen now (is_read_fault {T = Unit {0}} (Err why)) b) (same_write (Unit {0}) CreateReport why) works))
    (same_making (Unit {0}) CreateReport why stops.of_making)
    (λ t.
    let over = between image ecc s.seen w.start now found.plan w.begun course s.changes w.work.leads t in
    headless_begun _ _ _ (stops.headless over.tells))

-- all were worked: the body stands, and then the header was put in front of it, or that failed
whole : (image ecc : List ℕ) (r : ℕ) (old now : DeskState) (found : Found) (course : Course) {T : Type 0} (value : T)
    → (w : IsWorked {T = T} image ecc r old now found course (Ok value)) → IsTrue w.started.seen.tells
    → IsWhole (bytes_of w.started.seen.files image) found course.hasher (now.files ecc)
whole image ecc r old now found course {T} value w t =
    let s = w.started in
    stands_whole image ecc s.seen w.start now found course w.work.finished.at_work.apart (found_at image old s.seen found s.reads s.accepts t)
    (between image ecc s.seen w.start now found.plan w.begun course s.changes w.work.leads t) w.work.finished

works_added : (image ecc : List ℕ) (r : ℕ) (old now new : DeskState) (found : Found) (course : Course) {T : Type 0} (value : T) (failed : Bool)
    → (w : IsWorked {T = T} image ecc r old now found course (Ok value)) → OnlyChanges ecc now new failed → WorksOn ecc w.started.seen new false failed
works_added image ecc r old now new found course {T} value failed w changes =
    let s = w.started in
    works-then ecc s.seen now new false failed
    (works-then ecc s.seen w.start now false false (works-changes ecc s.seen w.start false s.changes)
    (counted image ecc w.start now found.plan w.begun course false false w.work.leads
    (quiet (moment now image ecc found.plan (faults_of w.start) course) w.work.finished.at_work.quiet)))
    (works-changes ecc now new failed changes)

pub after_end : {T : Type 0} (image ecc : List ℕ) (r : ℕ) (old now new : DeskState) (found : Found) (course : Course) (added : Result T CreateRefusal) (value : T) (report : CreateReport)
    → added ≡ Ok value → IsWorked image ecc r old now found course added → OnlyChanges ecc now new false
    → TellsEnd {E = Failed} found course.hasher ecc now new (Ok report) → IsCreate image ecc r old new (Ok report)
after_end {T} image ecc r old now new found course added value report is given changes tells =
    let w : IsWorked {T = T} image ecc r old now found course (Ok value) = as_told image ecc r old now found course added (Ok value) is given in
    let s = w.started in
    ends image ecc r old s.seen new found (Ok report) s.reads s.accepts s.parity (works_added image ecc r old now new found course value false w changes) tt
    (λ t.
    let over = between image ecc s.seen w.start now found.plan w.begun course s.changes w.work.leads t in
    let last = tells over.tells (bytes_of s.seen.files image) (whole image ecc r old now found course value w t) in
    (ended ecc _ s.seen now new over last.0, last.1))

pub after_end_failed : {T : Type 0} (image ecc : List ℕ) (r : ℕ) (old now new : DeskState) (found : Found) (course : Course) (added : Result T CreateRefusal) (value : T) (why : Failed)
    → added ≡ Ok value → IsWorked image ecc r old now found course added → OnlyChanges ecc now new true
    → TellsEnd {E = Failed} found course.hasher ecc now new (Err why) → IsCreate image ecc r old new (Err WriteFault)
after_end_failed {T} image ecc r old now new found course added value why is given changes tells =
    let w : IsWorked {T = T} image ecc r old now found course (Ok value) = as_told image ecc r old now found course added (Ok value) is given in
    let s = w.started in
    ends image ecc r old s.seen new found (Err WriteFault) s.reads s.accepts s.parity (works_added image ecc r old now new found course value true w changes) tt
    (λ t.
    let over = between image ecc s.seen w.start now found.plan w.begun course s.changes w.work.leads t in
    tells over.tells (bytes_of s.seen.files image) (whole image ecc r old now found course value w t) (s.seen.files ecc))
