-- What holds of a run that reads a medium into an image, by how the reading and the last text ended.
use Rattle.std.proofs.Common.{◌≡◌, ◌==◌, ◌&&◌, ◌≤◌, ◌⊎◌, ⊎_elim, ℕ, List, refl, sym, subst, ap, ◌∙◌, inl, inr, Bool, false, length, Bor}
use Rattle.std.specs.Prelude.{IfErr, IsTrue, IsOk, IsOkAnd, Option, Some, None, Result, Ok, Err}
use Rattle.std.specs.Option.{ForSome, option_map}
use Rattle.rs01_outside.specs.Causes.{Rose}
use Rattle.rs01_outside.specs.DeskState.{WorksOn}
use Rattle.rs01_outside.specs.Files.{SameElsewhere}
use Rattle.rs01_rack.specs.Rack.{AllTell}
use Rattle.rs01_rack.specs.declared.refusal.RackRefusal.TheVariants as rack
use Rattle.rs01_ecchead.specs.Opened.{opened_file}
use Rattle.rs01_ecchead.specs.declared.opened.EccRefusal.{EccRefusal}
use Rattle.rs01_ecchead.specs.declared.opened.EccRefusal.TheVariants as ecc
use Rattle.rs01_linear.specs.Medium.{AnswersNamed, Found, IsKnownBy}
use Rattle.rs01_linear.specs.Outcome.{IsUntouched, ReadsBy, RefusesBy}
use Rattle.rs01_linear.specs.Refusal.{IsOfMedium, LeavesAll, RefusesSizeAlone, TellsFaults, is_read_fault, is_write_fault}
use Rattle.rs01_linear.specs.Spared.{StaysGood}
use Rattle.rs01_linear.specs.declared.refusal.ReadRefusal.{ReadRefusal}
use Rattle.rs01_linear.specs.declared.refusal.ReadRefusal.TheVariants.{DriveSize, Ecc, OutOfMemory, Rack, ReadFault, WriteFault}
use Rattle.rs01_report.specs.declared.reports.ReadReport.{ReadReport}
use Rattle.rs01_report.specs.Faults.{fault_line, status_of}
use Rattle.rs01_report.specs.Texts.{read_lines}
use Rattle.rs01_top.specs.Faults.{ecc_fault, read_fault}
use Rattle.rs01_top.specs.Outside.{World, outside_of}
use Rattle.rs01_top.specs.Read.{HasGood, KeepsGood, Reading, ReadsSoFar, read_status, work_of_reading}
use Rattle.rs01_top.specs.Scan.{medium_in}
use Rattle.rs01_top.specs.Work.{fault_in}
use Rattle.rs01_top.specs.Run.{Ends, IsKnown, IsRun, RackLasts, HasDriveCause}
use Rattle.rs01_top.proofs.Endings.{Leaves, NoFileRefuses, NotOfWords, asked_drives, done, out_of_memory, read_failed, refused, refused_by_drives, writing_failed}
use Rattle.rs01_top.proofs.HeadFaults.{head_is}
use Rattle.rs01_top.proofs.MediumFaults.{FileAnswer, SizedAlone, file_answer, file_of, not_by_file, not_refused, of_err, refused_so, sized_alone}
use Rattle.rs01_top.proofs.Verifies.{none_or_one}

read_range : (report : ReadReport) → (read_status report ≡ 0) ⊎ (read_status report ≡ 1)
read_range report = none_or_one ((length report.lost == 0) && (length report.strange == 0)) (read_status report) refl

not_of_words : (reading : Reading) → NotOfWords (work_of_reading reading)
not_of_words reading found why e two = of_err (medium_in reading.ecc found) why e two

-- what a reading does to its files, by how it ended: a fault of writing may come with one of reading
pub record Worked (reading : Reading) (old new : World) (result : Result ReadReport ReadRefusal) : Type 0 where
  pub quiet : is_write_fault result ≡ false → WorksOn reading.image old.desk new.desk (is_read_fault result) false
  pub tells : new.desk.tells ≡ old.desk.tells
  pub elsewhere : IsTrue old.desk.tells → SameElsewhere reading.image old.desk.files new.desk.files
  pub reads_later : old.desk.read_faults ≤ new.desk.read_faults
  pub writes_later : old.desk.write_faults ≤ new.desk.write_faults
  pub write_rose : IsTrue (is_write_fault result) → Rose old.desk.write_faults new.desk.write_faults
  -- whatever the drives give: what was good in the image file stays, and a medium that is refused leaves all files
  pub good : IsTrue old.desk.tells → (new.desk.files reading.image ≡ old.desk.files reading.image) ⊎ HasGood reading old new
  pub untouched : IfErr result (LeavesAll old.desk new.desk)
  pub alone : IfErr result (SizedAlone reading.ecc)
  pub file : IsTrue old.desk.tells → FileAnswer (option_map old.desk.files reading.ecc) result

-- that, by the counts of faults on its image
pub worked : (reading : Reading) (old new : World) (result : Result ReadReport ReadRefusal)
    → WorksOn reading.image old.desk new.desk (is_read_fault result) (is_write_fault result)
    → (IsTrue old.desk.tells → (new.desk.files reading.image ≡ old.desk.files reading.image) ⊎ HasGood reading old new)
    → IfErr result (LeavesAll old.desk new.desk) → IfErr result (SizedAlone reading.ecc)
    → (IsTrue old.desk.tells → FileAnswer (option_map old.desk.files reading.ecc) result) → Worked reading old new result
worked reading old new result works good untouched alone file = record {
  quiet = λ e. subst (λ (b : Bool). WorksOn reading.image old.desk new.desk (is_read_fault result) b) e works;
  tells = works.tells;
  elsewhere = works.elsewhere;
  reads_later = works.reads_later;
  writes_later = works.writes_later;
  write_rose = works.write_rose;
  good = good;
  untouched = untouched;
  alone = alone;
  file = file;
}

-- what was good in the image file stays, by the name of the error correction file as it is passed
pub good_by : (reading : Reading) (name : Option (Bor (List ℕ))) (old new : World) → reading.ecc ≡ option_map (λ (n : Bor (List ℕ)). n.now) name
    → StaysGood old.desk new.desk name reading.image old.rack new.rack
    → IsTrue old.desk.tells → (new.desk.files reading.image ≡ old.desk.files reading.image) ⊎ HasGood reading old new
good_by reading name old new is stays t = ⊎_elim
    (λ same. inl same)
    (λ spared. inr (record {
      known = spared.known;
      known_is = subst (λ (file : Option (Option (List ℕ))). IsKnownBy file spared.known)
          (file_of old.desk.files name ∙ ap (λ (n : Option (List ℕ)). option_map old.desk.files n) (sym is)) spared.known_is;
      number = λ none. spared.number (file_of old.desk.files name ∙ ap (λ (n : Option (List ℕ)). option_map old.desk.files n) (sym is ∙ none));
      spares = spared.spares;
    }))
    (stays t)

alone_by : (reading : Reading) (name : Option (Bor (List ℕ))) (result : Result ReadReport ReadRefusal) → reading.ecc ≡ option_map (λ (n : Bor (List ℕ)). n.now) name
    → IfErr result (RefusesSizeAlone name) → IfErr result (SizedAlone reading.ecc)
alone_by reading name (Ok report) is size = tt
alone_by reading name (Err why) is size = subst (λ (n : Option (List ℕ)). SizedAlone n why) (sym is) (sized_alone name why size)

-- what a reading does to its files, by what was answered of the file under the name as it is passed
pub worked_by : (reading : Reading) (name : Option (Bor (List ℕ))) (old new : World) (result : Result ReadReport ReadRefusal)
    → reading.ecc ≡ option_map (λ (n : Bor (List ℕ)). n.now) name
    → WorksOn reading.image old.desk new.desk (is_read_fault result) (is_write_fault result)
    → StaysGood old.desk new.desk name reading.image old.rack new.rack
    → IfErr result (LeavesAll old.desk new.desk) → AnswersNamed old.desk name result → Worked reading old new result
worked_by reading name old new result is works stays untouched answers =
    worked reading old new result works (good_by reading name old new is stays) untouched (alone_by reading name result is answers.size)
    (λ t. subst (λ (n : Option (List ℕ)). FileAnswer (option_map old.desk.files n) result) (sym is) (file_answer old.desk name result answers.file t))

-- what it keeps
kept : (reading : Reading) (old new : World) (result : Result ReadReport ReadRefusal) → Worked reading old new result
    → IsTrue old.desk.tells → KeepsGood reading old new
kept reading old new result worked t = record { elsewhere = worked.elsewhere t; image = worked.good t }

-- what is known of a reading, by how it ended: what it left and told, or where it was left
abbrev pub Told : Reading → (ReadReport → Found → Type 0) → (Found → Type 0) → World → World → Result ReadReport ReadRefusal → Type 0
Told reading IsRead IsLeft old new result =
    IsKnown (work_of_reading reading) old new
    → ReadsBy (option_map old.desk.files reading.ecc) old.rack new.rack (old.desk.files reading.image) (new.desk.files reading.image) IsRead IsLeft result

-- that, where it is known by the name of the file as it is passed
pub told_as : (reading : Reading) (IsRead : ReadReport → Found → Type 0) (IsLeft : Found → Type 0) (name : Option (Bor (List ℕ))) (old new : World) (result : Result ReadReport ReadRefusal)
    → reading.ecc ≡ option_map (λ (n : Bor (List ℕ)). n.now) name
    → (IsTrue old.desk.tells → AllTell new.rack
    → ReadsBy (option_map (λ (n : Bor (List ℕ)). old.desk.files n.now) name) old.rack new.rack (old.desk.files reading.image) (new.desk.files reading.image) IsRead IsLeft result)
    → Told reading IsRead IsLeft old new result
told_as reading IsRead IsLeft name old new result same is d =
    subst (λ (file : Option (Option (List ℕ))). ReadsBy file old.rack new.rack (old.desk.files reading.image) (new.desk.files reading.image) IsRead IsLeft result)
    (file_of old.desk.files name ∙ ap (λ (n : Option (List ℕ)). option_map old.desk.files n) (sym same)) (is d.0 (d.1 refl))

-- that is what the work asks for
pub record Fits (reading : Reading) (IsRead : ReadReport → Found → Type 0) (IsLeft : Found → Type 0) (old new : World) : Type 0 where
  pub done : (medium : Found) (report : ReadReport) → IsKnown (work_of_reading reading) old new → IsRead report medium
      → reading.done medium (outside_of old) (outside_of new) (read_lines report reading.image) (read_status report)
  pub whole : (medium : Found) (report : ReadReport) → IsRead report medium → reading.left medium (outside_of old) (outside_of new)
  pub left : (medium : Found) → IsLeft medium → reading.left medium (outside_of old) (outside_of new)

-- a file that opens doesn't refuse it
file_fits : (reading : Reading) (old : World) → (IsTrue old.desk.tells → ForSome (option_map old.desk.files reading.ecc) (λ file. IsOk (opened_file file)))
    → NoFileRefuses (work_of_reading reading) old
file_fits reading old opens why e t three = not_by_file (option_map old.desk.files reading.ecc) (outside_of old).views why (opens t) e three

done_of : (r : Result Found ReadRefusal) (reading : Reading) (IsRead : ReadReport → Found → Type 0) (IsLeft : Found → Type 0) (old new : World) (report : ReadReport)
    → Fits reading IsRead IsLeft old new → IsKnown (work_of_reading reading) old new → IsOkAnd r (IsRead report)
    → IsOkAnd r (λ medium. reading.done medium (outside_of old) (outside_of new) (read_lines report reading.image) (read_status report))
done_of (Ok medium) reading IsRead IsLeft old new report fits d p = fits.done medium report d p
done_of (Err why) reading IsRead IsLeft old new report fits d p = absurd p

whole : (r : Result Found ReadRefusal) (reading : Reading) (IsRead : ReadReport → Found → Type 0) (IsLeft : Found → Type 0) (old new : World) (report : ReadReport)
    → Fits reading IsRead IsLeft old new → IsOkAnd r (IsRead report) → ReadsSoFar reading (outside_of old) (outside_of new) r
whole (Ok medium) reading IsRead IsLeft old new report fits p = inr (fits.whole medium report p)
whole (Err why) reading IsRead IsLeft old new report fits p = absurd p

-- the medium was read to its end
pub read : (reading : Reading) (IsRead : ReadReport → Found → Type 0) (IsLeft : Found → Type 0) (old new : World) (report : ReadReport) (status : ℕ)
    → Fits reading IsRead IsLeft old new → Worked reading old new (Ok report) → RackLasts old.rack new.rack → RefusesBy (Ok report) old.rack new.rack
    → Told reading IsRead IsLeft old new (Ok report)
    → Ends (read_lines report reading.image) (read_status report) old.out new.out status
    → IsRun (work_of_reading reading) old new status
read reading IsRead IsLeft old new report status fits worked lasts by is ends =
    let medium = medium_in reading.ecc (outside_of old) in
    done (work_of_reading reading) reading.image old new (read_lines report reading.image) (read_status report) status
    (not_of_words reading) (read_range report) (asked_drives (work_of_reading reading) old.rack new.rack refl lasts) (worked.quiet refl)
    (file_fits reading old (worked.file))
    (λ d. not_refused _ medium (is d))
    (λ d. done_of medium reading IsRead IsLeft old new report fits d (is d))
    (record {
      stands = λ d. record { elsewhere = worked.elsewhere d.0; left = whole medium reading IsRead IsLeft old new report fits (is d) };
      keeps = kept reading old new (Ok report) worked;
    })
    (λ u. by)
    ends

-- a reading that was left somewhere, or not begun
untouched : (r : Result Found ReadRefusal) (reading : Reading) (old new : World)
    → IsUntouched old.rack new.rack (old.desk.files reading.image) (new.desk.files reading.image)
    → ReadsSoFar reading (outside_of old) (outside_of new) r
untouched (Ok medium) reading old new same = inl (record { views = same.views_are; file = same.file_is })
untouched (Err why) reading old new same = record { views = same.views_are; file = same.file_is }

left_at : (r : Result Found ReadRefusal) (reading : Reading) (IsRead : ReadReport → Found → Type 0) (IsLeft : Found → Type 0) (old new : World)
    → Fits reading IsRead IsLeft old new → IsOkAnd r IsLeft → ReadsSoFar reading (outside_of old) (outside_of new) r
left_at (Ok medium) reading IsRead IsLeft old new fits left = inr (fits.left medium left)
left_at (Err why) reading IsRead IsLeft old new fits left = absurd left

stands : (reading : Reading) (IsRead : ReadReport → Found → Type 0) (IsLeft : Found → Type 0) (old new : World) (why : ReadRefusal)
    → Fits reading IsRead IsLeft old new → Worked reading old new (Err why)
    → Told reading IsRead IsLeft old new (Err why) → Leaves (work_of_reading reading) old new
stands reading IsRead IsLeft old new why fits worked is = record {
  stands = λ d. record {
    elsewhere = worked.elsewhere d.0;
    left = ⊎_elim
        (λ same. untouched (medium_in reading.ecc (outside_of old)) reading old new same)
        (λ left. left_at (medium_in reading.ecc (outside_of old)) reading IsRead IsLeft old new fits left)
        (is d).left;
  };
  keeps = kept reading old new (Err why) worked;
}

first_of : (reading : Reading) (IsRead : ReadReport → Found → Type 0) (IsLeft : Found → Type 0) (old new : World) (why : ReadRefusal) → IsOfMedium why
    → Told reading IsRead IsLeft old new (Err why) → IsKnown (work_of_reading reading) old new → (work_of_reading reading).refusal (outside_of old) ≡ Some (read_fault why)
first_of reading IsRead IsLeft old new why of is d = ap (λ (r : Result Found ReadRefusal). fault_in read_fault r) ((is d).refused of)

unasked : (reading : Reading) (IsRead : ReadReport → Found → Type 0) (IsLeft : Found → Type 0) (old new : World) (why : ReadRefusal) → IsOfMedium why
    → Told reading IsRead IsLeft old new (Err why) → IsKnown (work_of_reading reading) old new → (outside_of new).views ≡ (outside_of old).views
unasked reading IsRead IsLeft old new why of is d = ((is d).untouched of).views_are

-- the file is refused
of_file : (reading : Reading) (IsRead : ReadReport → Found → Type 0) (IsLeft : Found → Type 0) (old new : World) (why : EccRefusal) (status : ℕ)
    → status_of (ecc_fault why) ≡ 3 → Fits reading IsRead IsLeft old new → Worked reading old new (Err (Ecc why)) → RackLasts old.rack new.rack
    → Told reading IsRead IsLeft old new (Err (Ecc why))
    → Ends (fault_line (ecc_fault why)) (status_of (ecc_fault why)) old.out new.out status
    → IsRun (work_of_reading reading) old new status
of_file reading IsRead IsLeft old new why status three fits worked lasts is ends =
    refused (work_of_reading reading) reading.image old new (ecc_fault why) status (not_of_words reading) three
    (asked_drives (work_of_reading reading) old.rack new.rack refl lasts) (worked.quiet refl)
    (λ t. refused_so (option_map old.desk.files reading.ecc) (outside_of old).views why (worked.file t)) (worked.untouched tt) (unasked reading IsRead IsLeft old new (Ecc why) tt is)
    (stands reading IsRead IsLeft old new (Ecc why) fits worked is) ends

-- the drives are refused
of_drives : (reading : Reading) (IsRead : ReadReport → Found → Type 0) (IsLeft : Found → Type 0) (old new : World) (why : ReadRefusal) (status : ℕ)
    → IsOfMedium why → status_of (read_fault why) ≡ 5 → HasDriveCause (work_of_reading reading) (read_fault why) old.rack new.rack
    → Fits reading IsRead IsLeft old new → WorksOn reading.image old.desk new.desk false false → Worked reading old new (Err why)
    → NoFileRefuses (work_of_reading reading) old
    → RackLasts old.rack new.rack → Told reading IsRead IsLeft old new (Err why)
    → Ends (fault_line (read_fault why)) (status_of (read_fault why)) old.out new.out status
    → IsRun (work_of_reading reading) old new status
of_drives reading IsRead IsLeft old new why status of five raised fits works worked opens lasts is ends =
    refused_by_drives (work_of_reading reading) reading.image old new (read_fault why) status (not_of_words reading) refl five raised
    (asked_drives (work_of_reading reading) old.rack new.rack refl lasts) works opens
    (first_of reading IsRead IsLeft old new why of is) (worked.untouched of) (unasked reading IsRead IsLeft old new why of is)
    (stands reading IsRead IsLeft old new why fits worked is) ends

accepted : (r : Result Found ReadRefusal) → IsOk r → fault_in read_fault r ≡ None
accepted (Ok medium) ok = refl
accepted (Err why) ok = cc

pub not_read : (reading : Reading) (IsRead : ReadReport → Found → Type 0) (IsLeft : Found → Type 0) (old new : World) (why : ReadRefusal) (status : ℕ)
    → Fits reading IsRead IsLeft old new → Worked reading old new (Err why)
    → RackLasts old.rack new.rack → RefusesBy {T = ReadReport} (Err why) old.rack new.rack → TellsFaults why → Told reading IsRead IsLeft old new (Err why)
    → Ends (fault_line (read_fault why)) (status_of (read_fault why)) old.out new.out status
    → IsRun (work_of_reading reading) old new status
not_read reading R L old new (Ecc ecc.NoFile) status fits worked lasts by cause is ends = of_file reading R L old new ecc.NoFile status refl fits worked lasts is ends
not_read reading R L old new (Ecc (ecc.Head why)) status fits worked lasts by cause is ends = of_file reading R L old new (ecc.Head why) status (head_is why) fits worked lasts is ends
not_read reading R L old new (Ecc (ecc.Size have want)) status fits worked lasts by cause is ends = of_file reading R L old new (ecc.Size have want) status refl fits worked lasts is ends
not_read reading R L old new (Ecc (ecc.Body have want)) status fits worked lasts by cause is ends = of_file reading R L old new (ecc.Body have want) status refl fits worked lasts is ends
not_read reading R L old new (Ecc ecc.ReadFault) status fits worked lasts by cause is ends = absurd cause.0
not_read reading R L old new (Ecc ecc.OutOfMemory) status fits worked lasts by cause is ends = absurd cause.0
not_read reading R L old new (Rack rack.NoDrive) status fits worked lasts by cause is ends = of_drives reading R L old new (Rack rack.NoDrive) status tt refl by.0 fits (worked.quiet refl) worked (file_fits reading old worked.file) lasts is ends
not_read reading R L old new (Rack (rack.Failed drive)) status fits worked lasts by cause is ends = of_drives reading R L old new (Rack (rack.Failed drive)) status tt refl by fits (worked.quiet refl) worked (file_fits reading old worked.file) lasts is ends
not_read reading R L old new (Rack (rack.Differ first other)) status fits worked lasts by cause is ends = of_drives reading R L old new (Rack (rack.Differ first other)) status tt refl by.0 fits (worked.quiet refl) worked (file_fits reading old worked.file) lasts is ends
not_read reading R L old new (DriveSize n) status fits worked lasts by cause is ends = of_drives reading R L old new (DriveSize n) status tt refl (worked.alone n refl, by.0, by.1) fits (worked.quiet refl) worked (file_fits reading old worked.file) lasts is ends
not_read reading R L old new ReadFault status fits worked lasts by cause is ends =
    read_failed (work_of_reading reading) reading.image old new status (not_of_words reading)
    (asked_drives (work_of_reading reading) old.rack new.rack refl lasts) (worked.quiet refl) (stands reading R L old new ReadFault fits worked is) ends
not_read reading R L old new WriteFault status fits worked lasts by cause is ends =
    writing_failed (work_of_reading reading) old new status (not_of_words reading) refl
    (asked_drives (work_of_reading reading) old.rack new.rack refl lasts) worked.tells worked.reads_later worked.writes_later (worked.write_rose refl)
    (λ d. accepted (medium_in reading.ecc (outside_of old)) ((is d).write_fault_last refl))
    (stands reading R L old new WriteFault fits worked is) ends
not_read reading R L old new OutOfMemory status fits worked lasts by cause is ends =
    out_of_memory (work_of_reading reading) reading.image old new status (not_of_words reading)
    (asked_drives (work_of_reading reading) old.rack new.rack refl lasts) (worked.quiet refl) (stands reading R L old new OutOfMemory fits worked is) ends
