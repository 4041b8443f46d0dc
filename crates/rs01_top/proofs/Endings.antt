-- What holds of a run, by how its work and its last text ended.
use Rattle.std.proofs.Common.{◌≡◌, ◌≢◌, ◌≤◌, ℕ, List, [], ◌++◌, length, refl, sym, ◌∙◌, ap, subst, arith, ◌⊎◌, inl, inr, ⊎_elim, true, false}
use Rattle.std.specs.Prelude.{IsTrue, IsSome, Option, Some, None, Result, Ok, Err, not, Bool}
use Rattle.std.proofs.Math.Seq.{take-length}
use Rattle.rs01_outside.proofs.States.{reads-start, works-reads}
use Rattle.rs01_outside.specs.Causes.{Rose}
use Rattle.rs01_outside.specs.DeskState.{DeskState, WorksOn}
use Rattle.rs01_outside.specs.SinkState.{SinkState}
use Rattle.rs01_demo.specs.Faults.{CountsFaults}
use Rattle.rs01_demo.proofs.CountLemmas.{counts}
use Rattle.rs01_report.specs.declared.faults.Fault.{Fault}
use Rattle.rs01_report.specs.declared.faults.Fault.TheVariants as fault
use Rattle.rs01_report.specs.declared.puts.PutRefusal.{PutRefusal}
use Rattle.rs01_report.specs.declared.puts.PutRefusal.TheVariants.{SinkFault, OutOfMemory}
use Rattle.rs01_report.specs.Faults.{fault_line, status_of}
use Rattle.rs01_report.specs.Puts.{PutsText}
use Rattle.rs01_linear.specs.Lasting as lasting
use Rattle.rs01_linear.specs.Medium.{Numbered}
use Rattle.rs01_linear.proofs.LastingLemmas.{same_lasts}
use Rattle.rs01_rack.specs.Rack.{RackState}
use Rattle.rs01_top.specs.Outside.{Outside, World, outside_of, world}
use Rattle.rs01_top.specs.Work.{Answers, AnswersBy, Work, no_work}
use Rattle.rs01_top.specs.Run.{Begins, Ends, IsKnown, IsKnownFor, IsRefusal, IsRun, IsSettled, NothingRose, RackLasts, HasDriveCause, Tells, ended}

-- how the last text of a run was put, which was to end with a status that is not 6 or 7
record IsTold (line : List ℕ) (wanted : ℕ) (out out' : SinkState) (status : ℕ) : Type 0 where
  pub tells : out'.tells ≡ out.tells
  pub later : out.faults ≤ out'.faults
  pub range : (status ≡ wanted) ⊎ (status ≡ 6) ⊎ (status ≡ 7)
  pub whole : status ≡ wanted → Tells out out' line
  pub begun : Begins out out' line
  pub nothing : status ≡ 7 → Tells out out' []
  pub cause : status ≡ 6 → Rose out.faults out'.faults
  pub quiet : status ≡ wanted → out'.faults ≡ out.faults

-- a text that was put whole was begun
begun : (out out' : SinkState) (line : List ℕ) → Tells out out' line → Begins out out' line
begun out out' line tells = λ t. (length line, tells t ∙ ap (λ xs. out.taken ++ xs) (sym (take-length line)))

-- and so was one of which nothing was put
begun_none : (out out' : SinkState) (line : List ℕ) → Tells out out' [] → Begins out out' line
begun_none out out' line tells = λ t. (0, tells t)

six : (wanted : ℕ) → wanted ≢ 7 → ended (Err SinkFault) wanted ≡ 6
six wanted seven = grind arith

told_by : (line : List ℕ) (wanted : ℕ) (out out' : SinkState) (status : ℕ) (put : Result Unit PutRefusal) → wanted ≢ 6 → wanted ≢ 7
    → PutsText out out' line put → status ≡ ended put wanted → IsTold line wanted out out' status
told_by line wanted out out' status (Ok u) six7 seven puts e = record {
  tells = puts.tells;
  later = puts.later;
  range = inl e;
  whole = λ h t. puts.taken t;
  begun = begun out out' line (λ t. puts.taken t);
  nothing = λ h. absurd (seven (sym e ∙ h));
  cause = λ h. absurd (six7 (sym e ∙ h));
  quiet = λ h. puts.kept refl;
}
told_by line wanted out out' status (Err SinkFault) six7 seven puts e =
    let d : status ≡ 6 = e ∙ six wanted seven in
    record {
      tells = puts.tells;
      later = puts.later;
      range = inr (inl d);
      whole = λ h. absurd (six7 (sym h ∙ d));
      begun = λ t. puts.taken t;
      nothing = λ h. absurd (omega (arith, d, h));
      cause = λ h. puts.rose refl;
      quiet = λ h. absurd (six7 (sym h ∙ d));
    }
told_by line wanted out out' status (Err OutOfMemory) six7 seven puts e = record {
  tells = puts.tells;
  later = puts.later;
  range = inr (inr e);
  whole = λ h. absurd (seven (sym h ∙ e));
  begun = begun_none out out' line (λ t. puts.taken t);
  nothing = λ h t. puts.taken t;
  cause = λ h. absurd (omega (arith, e, h));
  quiet = λ h. absurd (seven (sym h ∙ e));
}

told : (line : List ℕ) (wanted : ℕ) (out out' : SinkState) (status : ℕ) → wanted ≢ 6 → wanted ≢ 7
    → Ends line wanted out out' status → IsTold line wanted out out' status
told line wanted out out' status six7 seven ends = told_by line wanted out out' status ends.put six7 seven ends.puts ends.number

same_settled : (s wanted : ℕ) → IsSettled s → (s ≡ wanted) ⊎ (s ≡ 6) ⊎ (s ≡ 7) → s ≡ wanted
same_settled s wanted h r = grind arith

unsettled : (s : ℕ) → IsSettled s → (s ≡ 4) ⊎ (s ≡ 6) ⊎ (s ≡ 7) → ⊥
unsettled s h r = grind arith

-- a status that a refusal by words, files or drives has
refusal_settled : (s : ℕ) → IsRefusal s → IsSettled s
refusal_settled s h = inr (inr h)

-- a status as it was wanted
settled_low : (s : ℕ) → (s ≡ 0) ⊎ (s ≡ 1) → IsSettled s
settled_low s h = ⊎_elim (λ none. inl none) (λ one. inr (inl one)) h

not_two : (s : ℕ) → (s ≡ 3) ⊎ (s ≡ 5) → s ≡ 2 → ⊥
not_two s h e = grind arith

not_done : (s : ℕ) → (s ≡ 3) ⊎ (s ≡ 5) → (s ≡ 0) ⊎ (s ≡ 1) → ⊥
not_done s h low = grind arith

three_or_five : (s k : ℕ) → (s ≡ 3) ⊎ (s ≡ 5) → s ≡ k → 6 ≤ k → ⊥
three_or_five s k h e most = grind arith

pub some_same : (x y : Fault) → Some x ≡ Some y → x ≡ y
some_same x y e = cc

pub some_none : (x : Fault) → Some x ≡ None → ⊥
some_none x e = cc

low : (n k : ℕ) → (n ≡ 0) ⊎ (n ≡ 1) → n ≡ k → 2 ≤ k → ⊥
low n k range e most = grind arith

not_low : (n : ℕ) → (n ≡ 0) ⊎ (n ≡ 1) → IsRefusal n → ⊥
not_low n range h = grind arith

pub not_false : IsTrue false → ⊥
not_false h = cc

not_some : (o : Option Fault) → o ≡ None → IsSome o → ⊥
not_some None e h = cc
not_some (Some why) e h = cc

other_than : (n a b : ℕ) → n ≡ a → a ≢ b → n ≢ b
other_than n a b e ne d = ne (sym e ∙ d)

-- no refusal of the work is one of its words
abbrev pub NotOfWords : Work → Type 0
NotOfWords work = (found : Outside) (why : Fault) → work.refusal found ≡ Some why → status_of why ≡ 2 → ⊥

-- what refuses the work, with its line and its status
record Refusing (work : Work) (found : Outside) (line : List ℕ) (wanted : ℕ) : Type 0 where
  why : Fault
  first : work.refusal found ≡ Some why
  number : status_of why ≡ wanted
  line_is : line ≡ fault_line why

-- drives that refuse the work, with the line for them
record RefusingDrives (work : Work) (old new : RackState) (line : List ℕ) : Type 0 where
  used : IsTrue work.uses_drives
  why : Fault
  number : status_of why ≡ 5
  drives_are : HasDriveCause work why old new
  line_is : line ≡ fault_line why

-- what became of the drives
pub record OfRack (work : Work) (old new : RackState) : Type 0 where
  pub lasts : RackLasts old new
  pub unused : IsTrue (not work.uses_drives) → new ≡ old

-- drives that were asked
pub rack_lasts : (old new : RackState) → lasting.RackLasts old new → RackLasts old new
rack_lasts old new lasts = record { number = lasts.number; each = lasts.each }

pub asked_drives : (work : Work) (old new : RackState) → work.uses_drives ≡ true → RackLasts old new → OfRack work old new
asked_drives work old new uses lasts = record { lasts = lasts; unused = λ h. absurd (not_false (subst (λ (b : Bool). IsTrue (not b)) uses h)) }

pub was_asked : (work : Work) (old new : RackState) → work.uses_drives ≡ true → lasting.RackLasts old new → OfRack work old new
was_asked work old new uses lasts = asked_drives work old new uses (rack_lasts old new lasts)

-- drives that weren't
pub rack_stays : (rack : RackState) → RackLasts rack rack
rack_stays rack = record { number = refl; each = λ k before after was is. same_lasts rack.drives rack.drives k before after refl was is }

pub not_asked : (work : Work) (rack : RackState) → OfRack work rack rack
not_asked work rack = record { lasts = rack_stays rack; unused = λ h. refl }

-- what the work leaves, by what is known
pub record Leaves (work : Work) (old new : World) : Type 0 where
  pub stands : IsKnown work old new → work.may_stand (outside_of old) (outside_of new)
  pub keeps : IsTrue old.desk.tells → work.keeps old new

-- no file refuses the work, where the desk tells
abbrev pub NoFileRefuses : Work → World → Type 0
NoFileRefuses work old = (why : Fault) → work.refusal (outside_of old) ≡ Some why → IsTrue old.desk.tells → status_of why ≡ 3 → ⊥

-- it was found that nothing refuses it, where this is known
found_none : (work : Work) (old new : World) (why : Fault) → NotOfWords work → NoFileRefuses work old
    → (IsKnown work old new → work.refusal (outside_of old) ≡ None) → work.refusal (outside_of old) ≡ Some why
    → IsKnownFor work old new (status_of why) → ⊥
found_none work old new why words fits none e known =
    ⊎_elim (λ two. words (outside_of old) why e two) (⊎_elim (λ p. fits why e p.0 p.1) (λ d. some_none why (sym e ∙ none d))) known

-- what is known of a refusal by files or drives
abbrev pub KnownFirst : Work → World → World → Fault → Type 0
KnownFirst work old new why = ((IsTrue old.desk.tells × (status_of why ≡ 3)) ⊎ IsKnown work old new) → work.refusal (outside_of old) ≡ Some why

-- each refusal that is known is this one
only_this : (work : Work) (old new : World) (why other : Fault) → NotOfWords work → KnownFirst work old new why
    → (status_of why ≡ 5 → NoFileRefuses work old) → (status_of why ≡ 3) ⊎ (status_of why ≡ 5)
    → work.refusal (outside_of old) ≡ Some other → IsKnownFor work old new (status_of other) → status_of other ≡ status_of why
only_this work old new why other words first fits number e known =
    ⊎_elim
    (λ two. absurd (words (outside_of old) other e two))
    (⊎_elim
    (λ p. ⊎_elim (λ three. p.1 ∙ sym three) (λ five. absurd (fits five other e p.0 p.1)) number)
    (λ d. ap status_of (some_same other why (sym e ∙ first (inr d)))))
    known

-- the work ended without a fault, and this is its text with its status
settled : (work : Work) (old new : World) (line : List ℕ) (wanted status : ℕ)
    → IsSettled wanted → OfRack work old.rack new.rack → CountsFaults old.desk new.desk false false
    → (IsKnown work old new → Answers work (outside_of old) (outside_of new) line wanted)
    → Leaves work old new
    → ((why : Fault) → work.refusal (outside_of old) ≡ Some why → IsKnownFor work old new (status_of why) → status_of why ≡ wanted)
    → (IsRefusal wanted → IsKnownFor work old new wanted → Refusing work (outside_of old) line wanted)
    → (wanted ≡ 5 → RefusingDrives work old.rack new.rack line)
    → ((why : Fault) → work.refusal (outside_of old) ≡ Some why → status_of why ≡ 2 → line ≡ fault_line why)
    → (IsRefusal wanted → IsTrue old.desk.tells → new.desk.files ≡ old.desk.files)
    → ((wanted ≡ 0) ⊎ (wanted ≡ 1) → IsTrue work.uses_drives → (n : ℕ) × Numbered n old.rack new.rack)
    → IsTold line wanted old.out new.out status
    → IsRun work old new status
settled work old new line wanted status w rack works answer left refusing only drives of_words same_files numbered put =
    let rest : NothingRose old.desk new.desk = (works.read_kept refl, works.write_kept refl) in
    record {
      lasts = record {
        desk = works.tells;
        sink = put.tells;
        reads = works.reads_later;
        writes = works.writes_later;
        puts = put.later;
        drives = rack.lasts;
      };
      answer = λ d h.
          let same : status ≡ wanted = same_settled status wanted h put.range in
          (line, subst (Answers work (outside_of old) (outside_of new) line) (sym same) (answer d), put.whole same);
      unput = λ d six noreads nowrites. (line, wanted, answer d, put.begun);
      unput_line = λ why e two six. subst (λ (xs : List ℕ). Begins old.out new.out xs) (of_words why e two) put.begun;
      stands = left.stands;
      kept = record {
        files = left.keeps;
        refused = λ t h. same_files (subst IsRefusal (same_settled status wanted (inr (inr h)) put.range) h) t;
      };
      range = ⊎_elim (λ e. inl (subst IsSettled (sym e) w)) (λ e. inr (inr e)) put.range;
      only_refused = λ h known.
          let same : status ≡ wanted = same_settled status wanted (refusal_settled status h) put.range in
          let it = only (subst IsRefusal same h) (subst (IsKnownFor work old new) same known) in
          record {
            why = it.why;
            first = it.first;
            number = it.number ∙ sym same;
            line = subst (λ (xs : List ℕ). Tells old.out new.out xs) it.line_is (put.whole same);
          };
      refused = λ why e known. ⊎_elim (λ same. inl (same ∙ sym (refusing why e known))) (⊎_elim (λ s. inr (inl s)) (λ s. inr (inr (inl s)))) put.range;
      cause = record {
        files = λ four. absurd (grind (arith, put.range, w));
        drives = λ five.
            let same : status ≡ wanted = same_settled status wanted (inr (inr (inr (inr five)))) put.range in
            let it = drives (sym same ∙ five) in
            record {
              used = it.used;
              why = it.why;
              number = it.number;
              drives_are = it.drives_are;
              line = subst (λ (xs : List ℕ). Tells old.out new.out xs) it.line_is (put.whole same);
            };
        output = put.cause;
        memory = λ seven. begun_none old.out new.out (fault_line fault.OutOfMemory) (put.nothing seven);
      };
      numbered = λ h. numbered (subst (λ s. (s ≡ 0) ⊎ (s ≡ 1)) (same_settled status wanted (settled_low status h) put.range) h);
      quiet = record {
        no_work = λ why e two. rest;
        no_writes = λ h. works.write_kept refl;
        no_drives = rack.unused;
        output = λ four. absurd (grind (arith, put.range, w));
        settled = λ h. (rest, put.quiet (same_settled status wanted h put.range));
      };
    }

-- the work was done, on whatever files
pub done_by : (work : Work) (old new : World) (line : List ℕ) (wanted status : ℕ)
    → NotOfWords work → (wanted ≡ 0) ⊎ (wanted ≡ 1) → OfRack work old.rack new.rack → CountsFaults old.desk new.desk false false
    → NoFileRefuses work old
    → (IsKnown work old new → work.refusal (outside_of old) ≡ None)
    → (IsKnown work old new → work.done (outside_of old) (outside_of new) line wanted)
    → Leaves work old new
    → (IsTrue work.uses_drives → (n : ℕ) × Numbered n old.rack new.rack)
    → Ends line wanted old.out new.out status
    → IsRun work old new status
done_by work old new line wanted status words range rack works fits none did left numbered ends =
    settled work old new line wanted status (⊎_elim (λ e. inl e) (λ e. inr (inl e)) range) rack works
    (λ d. subst (λ (o : Option Fault). AnswersBy o work.done (outside_of old) (outside_of new) line wanted) (sym (none d)) (did d))
    left
    (λ why e known. absurd (found_none work old new why words fits none e known))
    (λ h known. absurd (not_low wanted range h))
    (λ five. absurd (low wanted 5 range five (omega arith)))
    (λ why e two. absurd (words (outside_of old) why e two))
    (λ h t. absurd (not_low wanted range h))
    (λ h. numbered)
    (told line wanted old.out new.out status (λ e. low wanted 6 range e (omega arith)) (λ e. low wanted 7 range e (omega arith)) ends)

-- on one of them
pub done : (work : Work) (name : List ℕ) (old new : World) (line : List ℕ) (wanted status : ℕ)
    → NotOfWords work → (wanted ≡ 0) ⊎ (wanted ≡ 1) → OfRack work old.rack new.rack → WorksOn name old.desk new.desk false false
    → NoFileRefuses work old
    → (IsKnown work old new → work.refusal (outside_of old) ≡ None)
    → (IsKnown work old new → work.done (outside_of old) (outside_of new) line wanted)
    → Leaves work old new
    → (IsTrue work.uses_drives → (n : ℕ) × Numbered n old.rack new.rack)
    → Ends line wanted old.out new.out status
    → IsRun work old new status
done work name old new line wanted status words range rack works fits none did left numbered ends =
    done_by work old new line wanted status words range rack (counts name old.desk new.desk false false works) fits none did left numbered ends

-- files or drives refuse the work
refused_for : (work : Work) (old new : World) (why : Fault) (status : ℕ)
    → NotOfWords work → (status_of why ≡ 3) ⊎ (status_of why ≡ 5) → OfRack work old.rack new.rack → CountsFaults old.desk new.desk false false
    → KnownFirst work old new why
    → (status_of why ≡ 5 → NoFileRefuses work old)
    → (IsTrue old.desk.tells → new.desk.files ≡ old.desk.files)
    → (IsKnown work old new → (outside_of new).views ≡ (outside_of old).views)
    → Leaves work old new
    → (status_of why ≡ 5 → RefusingDrives work old.rack new.rack (fault_line why))
    → Ends (fault_line why) (status_of why) old.out new.out status
    → IsRun work old new status
refused_for work old new why status words number rack works first fits files same left drives ends =
    settled work old new (fault_line why) (status_of why) status (inr (inr (inr number))) rack works
    (λ d. subst (λ (o : Option Fault). AnswersBy o work.done (outside_of old) (outside_of new) (fault_line why) (status_of why)) (sym (first (inr d)))
    (record { files = files d.0; views = same d; line = refl; number = refl }))
    left
    (λ other e known. only_this work old new why other words first fits number e known)
    (λ h known. ⊎_elim
    (λ two. absurd (not_two (status_of why) number two))
    (λ k. record { why = why; first = first k; number = refl; line_is = refl })
    known)
    drives
    (λ other e two. absurd (words (outside_of old) other e two))
    (λ h t. files t)
    (λ h. absurd (not_done (status_of why) number h))
    (told (fault_line why) (status_of why) old.out new.out status
    (λ e. three_or_five (status_of why) 6 number e (omega arith)) (λ e. three_or_five (status_of why) 7 number e (omega arith)) ends)

-- the files refuse the work, which is known where the desk tells
pub refused_by : (work : Work) (old new : World) (why : Fault) (status : ℕ)
    → NotOfWords work → status_of why ≡ 3 → OfRack work old.rack new.rack → CountsFaults old.desk new.desk false false
    → (IsTrue old.desk.tells → work.refusal (outside_of old) ≡ Some why)
    → (IsTrue old.desk.tells → new.desk.files ≡ old.desk.files)
    → (IsKnown work old new → (outside_of new).views ≡ (outside_of old).views)
    → Leaves work old new
    → Ends (fault_line why) (status_of why) old.out new.out status
    → IsRun work old new status
refused_by work old new why status words three rack works first files same left ends =
    refused_for work old new why status words (inl three) rack works (λ k. ⊎_elim (λ p. first p.0) (λ d. first d.0) k)
    (λ five. absurd (other_than (status_of why) 3 5 three (λ e. omega arith) five)) files same left
    (λ five. absurd (other_than (status_of why) 3 5 three (λ e. omega arith) five)) ends

pub refused : (work : Work) (name : List ℕ) (old new : World) (why : Fault) (status : ℕ)
    → NotOfWords work → status_of why ≡ 3 → OfRack work old.rack new.rack → WorksOn name old.desk new.desk false false
    → (IsTrue old.desk.tells → work.refusal (outside_of old) ≡ Some why)
    → (IsTrue old.desk.tells → new.desk.files ≡ old.desk.files)
    → (IsKnown work old new → (outside_of new).views ≡ (outside_of old).views)
    → Leaves work old new
    → Ends (fault_line why) (status_of why) old.out new.out status
    → IsRun work old new status
refused work name old new why status words three rack works first files same left ends =
    refused_by work old new why status words three rack (counts name old.desk new.desk false false works) first files same left ends

-- the drives refuse it
pub refused_by_drives : (work : Work) (name : List ℕ) (old new : World) (why : Fault) (status : ℕ)
    → NotOfWords work → IsTrue work.uses_drives → status_of why ≡ 5 → HasDriveCause work why old.rack new.rack
    → OfRack work old.rack new.rack → WorksOn name old.desk new.desk false false
    → NoFileRefuses work old
    → (IsKnown work old new → work.refusal (outside_of old) ≡ Some why)
    → (IsTrue old.desk.tells → new.desk.files ≡ old.desk.files)
    → (IsKnown work old new → (outside_of new).views ≡ (outside_of old).views)
    → Leaves work old new
    → Ends (fault_line why) (status_of why) old.out new.out status
    → IsRun work old new status
refused_by_drives work name old new why status words used five raised rack works fits first files same left ends =
    refused_for work old new why status words (inr five) rack (counts name old.desk new.desk false false works)
    (λ k. ⊎_elim (λ p. absurd (other_than (status_of why) 5 3 five (λ e. omega arith) p.1)) first k) (λ e. fits) files same left
    (λ e. record { used = used; why = why; number = five; drives_are = raised; line_is = refl }) ends

-- the words refuse it, and nothing is begun
pub not_begun : (why : Fault) (desk : DeskState) (rack : RackState) (out out' : SinkState) (status : ℕ) → status_of why ≡ 2
    → Ends (fault_line why) (status_of why) out out' status
    → IsRun (no_work why) (world desk rack out) (world desk rack out') status
not_begun why desk rack out out' status two ends =
    settled (no_work why) (world desk rack out) (world desk rack out') (fault_line why) (status_of why) status
    (inr (inr (inl two))) (not_asked (no_work why) rack) (counts [] desk desk false false (works-reads [] desk desk false (reads-start desk)))
    (λ d. record { files = refl; views = refl; line = refl; number = refl })
    (record { stands = λ d. refl; keeps = λ t. refl })
    (λ other e known. ap status_of (sym (some_same why other e)))
    (λ h known. record { why = why; first = refl; number = refl; line_is = refl })
    (λ five. absurd (other_than (status_of why) 2 5 two (λ e. omega arith) five))
    (λ other e two. ap fault_line (some_same why other e))
    (λ h t. refl)
    (λ h u. absurd (not_false u))
    (told (fault_line why) (status_of why) out out' status
    (other_than (status_of why) 2 6 two (λ e. omega arith)) (other_than (status_of why) 2 7 two (λ e. omega arith)) ends)

-- a file could not be read or written
faulted : (work : Work) (old new : World) (line : List ℕ) (status : ℕ)
    → NotOfWords work → OfRack work old.rack new.rack
    → new.desk.tells ≡ old.desk.tells → old.desk.read_faults ≤ new.desk.read_faults → old.desk.write_faults ≤ new.desk.write_faults
    → Leaves work old new
    → (Rose old.desk.read_faults new.desk.read_faults × (line ≡ fault_line fault.ReadFault))
    ⊎ (Rose old.desk.write_faults new.desk.write_faults × (line ≡ fault_line fault.WriteFault))
    → (IsTrue work.only_reads ⊎ (IsKnown work old new × IsSome (work.refusal (outside_of old))) → new.desk.write_faults ≡ old.desk.write_faults)
    → IsTold line 4 old.out new.out status
    → IsRun work old new status
faulted work old new line status words rack tells reads writes left cause still put = record {
  lasts = record { desk = tells; sink = put.tells; reads = reads; writes = writes; puts = put.later; drives = rack.lasts };
  answer = λ d h. absurd (unsettled status h put.range);
  unput = λ d six noreads nowrites. absurd (⊎_elim (λ p. noreads p.0) (λ p. nowrites p.0) cause);
  unput_line = λ why e two six. absurd (words (outside_of old) why e two);
  stands = left.stands;
  kept = record { files = left.keeps; refused = λ t h. absurd (unsettled status (inr (inr h)) put.range) };
  range = inr put.range;
  only_refused = λ h known. absurd (unsettled status (refusal_settled status h) put.range);
  refused = λ why e known. ⊎_elim (λ four. inr (inr (inr (four, words (outside_of old) why e)))) (⊎_elim (λ s. inr (inl s)) (λ s. inr (inr (inl s)))) put.range;
  cause = record {
    files = λ four. ⊎_elim
        (λ p. inl (p.0, subst (λ (xs : List ℕ). Tells old.out new.out xs) p.1 (put.whole four)))
        (λ p. inr (p.0, subst (λ (xs : List ℕ). Tells old.out new.out xs) p.1 (put.whole four)))
        cause;
    drives = λ five. absurd (unsettled status (inr (inr (inr (inr five)))) put.range);
    output = put.cause;
    memory = λ seven. begun_none old.out new.out (fault_line fault.OutOfMemory) (put.nothing seven);
  };
  numbered = λ h. absurd (unsettled status (settled_low status h) put.range);
  quiet = record {
    no_work = λ why e two. absurd (words (outside_of old) why e two);
    no_writes = still;
    no_drives = rack.unused;
    output = put.quiet;
    settled = λ h. absurd (unsettled status h put.range);
  };
}

pub read_failed_by : (work : Work) (old new : World) (status : ℕ)
    → NotOfWords work → OfRack work old.rack new.rack → CountsFaults old.desk new.desk true false
    → Leaves work old new
    → Ends (fault_line fault.ReadFault) 4 old.out new.out status
    → IsRun work old new status
read_failed_by work old new status words rack works left ends =
    faulted work old new (fault_line fault.ReadFault) status words rack works.tells works.reads_later works.writes_later left
    (inl (works.read_rose refl, refl)) (λ h. works.write_kept refl)
    (told (fault_line fault.ReadFault) 4 old.out new.out status (λ e. omega arith) (λ e. omega arith) ends)

pub read_failed : (work : Work) (name : List ℕ) (old new : World) (status : ℕ)
    → NotOfWords work → OfRack work old.rack new.rack → WorksOn name old.desk new.desk true false
    → Leaves work old new
    → Ends (fault_line fault.ReadFault) 4 old.out new.out status
    → IsRun work old new status
read_failed work name old new status words rack works left ends =
    read_failed_by work old new status words rack (counts name old.desk new.desk true false works) left ends

-- writing is tried only by work that does more than read, once nothing refuses it; reading may have failed besides
pub writing_failed : (work : Work) (old new : World) (status : ℕ)
    → NotOfWords work → work.only_reads ≡ false → OfRack work old.rack new.rack
    → new.desk.tells ≡ old.desk.tells → old.desk.read_faults ≤ new.desk.read_faults → old.desk.write_faults ≤ new.desk.write_faults
    → Rose old.desk.write_faults new.desk.write_faults
    → (IsKnown work old new → work.refusal (outside_of old) ≡ None)
    → Leaves work old new
    → Ends (fault_line fault.WriteFault) 4 old.out new.out status
    → IsRun work old new status
writing_failed work old new status words more rack tells reads writes rose none left ends =
    faulted work old new (fault_line fault.WriteFault) status words rack tells reads writes left
    (inr (rose, refl))
    (λ h. absurd (⊎_elim (λ only. not_false (subst IsTrue more only)) (λ p. not_some (work.refusal (outside_of old)) (none p.0) p.1) h))
    (told (fault_line fault.WriteFault) 4 old.out new.out status (λ e. omega arith) (λ e. omega arith) ends)

pub write_failed_by : (work : Work) (old new : World) (status : ℕ)
    → NotOfWords work → work.only_reads ≡ false → OfRack work old.rack new.rack → CountsFaults old.desk new.desk false true
    → (IsKnown work old new → work.refusal (outside_of old) ≡ None)
    → Leaves work old new
    → Ends (fault_line fault.WriteFault) 4 old.out new.out status
    → IsRun work old new status
write_failed_by work old new status words more rack works none left ends =
    writing_failed work old new status words more rack works.tells works.reads_later works.writes_later (works.write_rose refl) none left ends

pub write_failed : (work : Work) (name : List ℕ) (old new : World) (status : ℕ)
    → NotOfWords work → work.only_reads ≡ false → OfRack work old.rack new.rack → WorksOn name old.desk new.desk false true
    → (IsKnown work old new → work.refusal (outside_of old) ≡ None)
    → Leaves work old new
    → Ends (fault_line fault.WriteFault) 4 old.out new.out status
    → IsRun work old new status
write_failed work name old new status words more rack works none left ends =
    write_failed_by work old new status words more rack (counts name old.desk new.desk false true works) none left ends

-- how the line for want of memory was put
record IsOver (out out' : SinkState) (status : ℕ) : Type 0 where
  pub tells : out'.tells ≡ out.tells
  pub later : out.faults ≤ out'.faults
  pub seven : status ≡ 7
  pub begun : Begins out out' (fault_line fault.OutOfMemory)

over_by : (out out' : SinkState) (status : ℕ) (put : Result Unit PutRefusal) → PutsText out out' (fault_line fault.OutOfMemory) put
    → status ≡ ended put 7 → IsOver out out' status
over_by out out' status (Ok u) puts e = record {
  tells = puts.tells;
  later = puts.later;
  seven = e;
  begun = begun out out' (fault_line fault.OutOfMemory) (λ t. puts.taken t);
}
over_by out out' status (Err SinkFault) puts e = record { tells = puts.tells; later = puts.later; seven = e; begun = λ t. puts.taken t }
over_by out out' status (Err OutOfMemory) puts e = record {
  tells = puts.tells;
  later = puts.later;
  seven = e;
  begun = begun_none out out' (fault_line fault.OutOfMemory) (λ t. puts.taken t);
}

run_over : (work : Work) (old new : World) (status : ℕ)
    → NotOfWords work → OfRack work old.rack new.rack → CountsFaults old.desk new.desk false false
    → Leaves work old new
    → IsOver old.out new.out status
    → IsRun work old new status
run_over work old new status words rack works left over =
    let seven : status ≡ 7 = over.seven in
    record {
      lasts = record {
        desk = works.tells;
        sink = over.tells;
        reads = works.reads_later;
        writes = works.writes_later;
        puts = over.later;
        drives = rack.lasts;
      };
      answer = λ d h. absurd (unsettled status h (inr (inr seven)));
      unput = λ d six noreads nowrites. absurd (omega (arith, six, seven));
      unput_line = λ why e two six. absurd (words (outside_of old) why e two);
      stands = left.stands;
      kept = record { files = left.keeps; refused = λ t h. absurd (unsettled status (inr (inr h)) (inr (inr seven))) };
      range = inr (inr (inr seven));
      only_refused = λ h known. absurd (unsettled status (refusal_settled status h) (inr (inr seven)));
      refused = λ why e known. inr (inr (inl seven));
      cause = record {
        files = λ four. absurd (omega (arith, four, seven));
        drives = λ five. absurd (omega (arith, five, seven));
        output = λ six. absurd (omega (arith, six, seven));
        memory = λ s. over.begun;
      };
      numbered = λ h. absurd (unsettled status (settled_low status h) (inr (inr seven)));
      quiet = record {
        no_work = λ why e two. absurd (words (outside_of old) why e two);
        no_writes = λ h. works.write_kept refl;
        no_drives = rack.unused;
        output = λ four. absurd (omega (arith, four, seven));
        settled = λ h. absurd (unsettled status h (inr (inr seven)));
      };
    }

-- memory ran out
pub out_of_memory_by : (work : Work) (old new : World) (status : ℕ)
    → NotOfWords work → OfRack work old.rack new.rack → CountsFaults old.desk new.desk false false
    → Leaves work old new
    → Ends (fault_line fault.OutOfMemory) 7 old.out new.out status
    → IsRun work old new status
out_of_memory_by work old new status words rack works left ends =
    run_over work old new status words rack works left (over_by old.out new.out status ends.put ends.puts ends.number)

pub out_of_memory : (work : Work) (name : List ℕ) (old new : World) (status : ℕ)
    → NotOfWords work → OfRack work old.rack new.rack → WorksOn name old.desk new.desk false false
    → Leaves work old new
    → Ends (fault_line fault.OutOfMemory) 7 old.out new.out status
    → IsRun work old new status
out_of_memory work name old new status words rack works left ends =
    out_of_memory_by work old new status words rack (counts name old.desk new.desk false false works) left ends

-- the line of a fault, as it is called elsewhere
pub ends_by : (f f' : Fault) (out out' : SinkState) (status : ℕ) → f ≡ f'
    → Ends (fault_line f) (status_of f) out out' status → Ends (fault_line f') (status_of f') out out' status
ends_by f f' out out' status e ends = subst (λ (x : Fault). Ends (fault_line x) (status_of x) out out' status) e ends
