-- What holds of a run that scans a medium, by how the scan and the last text ended.
use Rattle.std.proofs.Common.{◌≡◌, ◌&&◌, ◌==◌, ◌⊎◌, ℕ, List, [], refl, subst, ap, arith, true, false, length, Bor}
use Rattle.std.specs.Prelude.{IsOk, IsTrue, IsOkAnd, Option, Some, Result, Ok, Err}
use Rattle.std.specs.Option.{ForSome, option_map}
use Rattle.rs01_outside.proofs.States.{works-reads}
use Rattle.rs01_outside.specs.DeskState.{OnlyReads}
use Rattle.rs01_outside.specs.DriveView.{DriveView}
use Rattle.rs01_rack.specs.Rack.{AllTell, views_of}
use Rattle.rs01_rack.specs.declared.refusal.RackRefusal.TheVariants as rack
use Rattle.rs01_ecchead.specs.Opened.{opened_file}
use Rattle.rs01_ecchead.specs.declared.opened.EccRefusal.{EccRefusal}
use Rattle.rs01_ecchead.specs.declared.opened.EccRefusal.TheVariants as ecc
use Rattle.rs01_linear.specs.Medium.{AnswersFile, AnswersNamed, Found}
use Rattle.rs01_linear.specs.Refusal.{IsOfMedium, IsOfReading, is_read_fault}
use Rattle.rs01_linear.specs.declared.refusal.ReadRefusal.{ReadRefusal}
use Rattle.rs01_linear.specs.declared.refusal.ReadRefusal.TheVariants.{DriveSize, Ecc, OutOfMemory, Rack, ReadFault, WriteFault}
use Rattle.rs01_report.specs.declared.reports.ScanReport.{ScanReport}
use Rattle.rs01_report.specs.Faults.{fault_line, status_of}
use Rattle.rs01_report.specs.Texts.{scan_lines}
use Rattle.rs01_verify.specs.Scan.{BreaksOff, IsScanOf, IsScanned, RefusesScan, Scans}
use Rattle.rs01_top.specs.Faults.{ecc_fault, read_fault}
use Rattle.rs01_top.specs.Outside.{Outside, World, outside_of}
use Rattle.rs01_top.specs.Scan.{HasScanned, medium_in, scan_work, scanned_status}
use Rattle.rs01_top.specs.Work.{fault_in}
use Rattle.rs01_top.specs.Run.{Ends, IsKnown, IsRun, HasDriveCause}
use Rattle.rs01_top.proofs.Endings.{Leaves, NoFileRefuses, NotOfWords, done, out_of_memory, read_failed, refused, refused_by_drives, was_asked}
use Rattle.rs01_top.proofs.HeadFaults.{head_is}
use Rattle.rs01_top.proofs.MediumFaults.{FileAnswer, SizedAlone, file_answer, file_of, not_by_file, not_refused, of_err, refused_so, sized_alone}
use Rattle.rs01_top.proofs.Verifies.{none_or_one}

scanned_range : (report : ScanReport) → (scanned_status report ≡ 0) ⊎ (scanned_status report ≡ 1)
scanned_range report = none_or_one ((length report.unreadable == 0) && (length report.altered == 0)) (scanned_status report) refl

not_of_words : (name : Option (List ℕ)) → NotOfWords (scan_work name)
not_of_words name found why e two = of_err (medium_in name found) why e two

-- what is answered of the file that may be named
abbrev pub FileAnswered : Option (List ℕ) → World → Result ScanReport ReadRefusal → Type 0
FileAnswered name old result = IsTrue old.desk.tells → FileAnswer (option_map old.desk.files name) result

-- a file that opens doesn't refuse the scan
file_fits : (name : Option (List ℕ)) (old : World) → (IsTrue old.desk.tells → ForSome (option_map old.desk.files name) (λ file. IsOk (opened_file file)))
    → NoFileRefuses (scan_work name) old
file_fits name old opens why e t three = not_by_file (option_map old.desk.files name) (outside_of old).views why (opens t) e three

told_of : (r : Result Found ReadRefusal) (old new : Outside) (report : ScanReport) → new.files ≡ old.files
    → IsOkAnd r (IsScanned old.views new.views report) → IsOkAnd r (HasScanned old new (scan_lines report) (scanned_status report))
told_of (Ok medium) old new report files p = record {
  files = files;
  views = p.views;
  lines = ap scan_lines p.told;
  number = ap scanned_status p.told;
}
told_of (Err why) old new report files p = absurd p

all_asked : (r : Result Found ReadRefusal) (old new : List DriveView) (report : ScanReport) → IsOkAnd r (IsScanned old new report) → BreaksOff r old new
all_asked (Ok medium) old new report p = (medium.known.sectors, omega arith, p.views)
all_asked (Err why) old new report p = absurd p

-- the medium was scanned
scanned : (name : Option (List ℕ)) (old new : World) (report : ScanReport) (status : ℕ)
    → OnlyReads old.desk new.desk false → Scans (Ok report) old.rack new.rack → FileAnswered name old (Ok report)
    → (IsTrue old.desk.tells → AllTell new.rack → IsScanOf (option_map old.desk.files name) (views_of old.rack) (views_of new.rack) (Ok report))
    → Ends (scan_lines report) (scanned_status report) old.out new.out status
    → IsRun (scan_work name) old new status
scanned name old new report status reads scans opens answer ends =
    let medium = medium_in name (outside_of old) in
    done (scan_work name) [] old new (scan_lines report) (scanned_status report) status
    (not_of_words name) (scanned_range report) (was_asked (scan_work name) old.rack new.rack refl scans.lasts) (works-reads [] old.desk new.desk false reads)
    (file_fits name old opens)
    (λ d. not_refused _ medium (answer d.0 (d.1 refl)))
    (λ d. told_of medium (outside_of old) (outside_of new) report (reads.unchanged d.0) (answer d.0 (d.1 refl)))
    (record {
      stands = λ d. record { files = reads.unchanged d.0; views = all_asked medium (views_of old.rack) (views_of new.rack) report (answer d.0 (d.1 refl)) };
      keeps = reads.unchanged;
    })
    (λ u. scans.number)
    ends

-- what is known of a scan that was refused or broken off
abbrev pub Refused : Option (List ℕ) → World → World → ReadRefusal → Type 0
Refused name old new why = IsKnown (scan_work name) old new → RefusesScan (medium_in name (outside_of old)) (views_of old.rack) (views_of new.rack) why

stands : (name : Option (List ℕ)) (old new : World) (why : ReadRefusal) → (IsTrue old.desk.tells → new.desk.files ≡ old.desk.files)
    → Refused name old new why → Leaves (scan_work name) old new
stands name old new why files is = record { stands = λ d. record { files = files d.0; views = (is d).left }; keeps = files }

first_of : (name : Option (List ℕ)) (old new : World) (why : ReadRefusal) → IsOfMedium why
    → Refused name old new why → IsKnown (scan_work name) old new → (scan_work name).refusal (outside_of old) ≡ Some (read_fault why)
first_of name old new why of is d = ap (λ (r : Result Found ReadRefusal). fault_in read_fault r) ((is d).first of)

unasked : (name : Option (List ℕ)) (old new : World) (why : ReadRefusal) → IsOfMedium why
    → Refused name old new why → IsKnown (scan_work name) old new → views_of new.rack ≡ views_of old.rack
unasked name old new why of is d = subst (λ (r : Result Found ReadRefusal). BreaksOff r (views_of old.rack) (views_of new.rack)) ((is d).first of) (is d).left

-- the file is refused
of_file : (name : Option (List ℕ)) (old new : World) (why : EccRefusal) (status : ℕ)
    → status_of (ecc_fault why) ≡ 3 → OnlyReads old.desk new.desk false → Scans (Err (Ecc why)) old.rack new.rack
    → FileAnswered name old (Err (Ecc why)) → Refused name old new (Ecc why)
    → Ends (fault_line (ecc_fault why)) (status_of (ecc_fault why)) old.out new.out status
    → IsRun (scan_work name) old new status
of_file name old new why status three reads scans answered is ends =
    refused (scan_work name) [] old new (ecc_fault why) status (not_of_words name) three
    (was_asked (scan_work name) old.rack new.rack refl scans.lasts) (works-reads [] old.desk new.desk false reads)
    (λ t. refused_so (option_map old.desk.files name) (outside_of old).views why (answered t)) reads.unchanged (unasked name old new (Ecc why) tt is) (stands name old new (Ecc why) reads.unchanged is) ends

-- the drives are refused
of_drives : (name : Option (List ℕ)) (old new : World) (why : ReadRefusal) (status : ℕ)
    → IsOfMedium why → status_of (read_fault why) ≡ 5 → HasDriveCause (scan_work name) (read_fault why) old.rack new.rack
    → OnlyReads old.desk new.desk false → Scans (Err why) old.rack new.rack
    → NoFileRefuses (scan_work name) old → Refused name old new why
    → Ends (fault_line (read_fault why)) (status_of (read_fault why)) old.out new.out status
    → IsRun (scan_work name) old new status
of_drives name old new why status of five raised reads scans opens is ends =
    refused_by_drives (scan_work name) [] old new (read_fault why) status (not_of_words name) refl five raised
    (was_asked (scan_work name) old.rack new.rack refl scans.lasts) (works-reads [] old.desk new.desk false reads)
    opens (first_of name old new why of is) reads.unchanged (unasked name old new why of is) (stands name old new why reads.unchanged is) ends

not_scanned : (name : Option (List ℕ)) (old new : World) (why : ReadRefusal) (status : ℕ)
    → OnlyReads old.desk new.desk (is_read_fault {T = ScanReport} (Err why)) → Scans (Err why) old.rack new.rack → IsOfReading why → SizedAlone name why
    → FileAnswered name old (Err why) → Refused name old new why
    → Ends (fault_line (read_fault why)) (status_of (read_fault why)) old.out new.out status
    → IsRun (scan_work name) old new status
not_scanned name old new (Ecc ecc.NoFile) status reads scans cause alone answered is ends = of_file name old new ecc.NoFile status refl reads scans answered is ends
not_scanned name old new (Ecc (ecc.Head why)) status reads scans cause alone answered is ends = of_file name old new (ecc.Head why) status (head_is why) reads scans answered is ends
not_scanned name old new (Ecc (ecc.Size have want)) status reads scans cause alone answered is ends = of_file name old new (ecc.Size have want) status refl reads scans answered is ends
not_scanned name old new (Ecc (ecc.Body have want)) status reads scans cause alone answered is ends = of_file name old new (ecc.Body have want) status refl reads scans answered is ends
not_scanned name old new (Ecc ecc.ReadFault) status reads scans cause alone answered is ends = absurd cause.0
not_scanned name old new (Ecc ecc.OutOfMemory) status reads scans cause alone answered is ends = absurd cause.0
not_scanned name old new (Rack rack.NoDrive) status reads scans cause alone answered is ends = of_drives name old new (Rack rack.NoDrive) status tt refl scans.cause.0 reads scans (file_fits name old answered) is ends
not_scanned name old new (Rack (rack.Failed drive)) status reads scans cause alone answered is ends =
    of_drives name old new (Rack (rack.Failed drive)) status tt refl scans.cause reads scans (file_fits name old answered) is ends
not_scanned name old new (Rack (rack.Differ first other)) status reads scans cause alone answered is ends =
    of_drives name old new (Rack (rack.Differ first other)) status tt refl scans.cause.0 reads scans (file_fits name old answered) is ends
not_scanned name old new (DriveSize n) status reads scans cause alone answered is ends = of_drives name old new (DriveSize n) status tt refl (alone n refl, scans.cause.0, scans.cause.1) reads scans (file_fits name old answered) is ends
not_scanned name old new ReadFault status reads scans cause alone answered is ends =
    read_failed (scan_work name) [] old new status (not_of_words name) (was_asked (scan_work name) old.rack new.rack refl scans.lasts)
    (works-reads [] old.desk new.desk true reads) (stands name old new ReadFault reads.unchanged is) ends
not_scanned name old new WriteFault status reads scans cause alone answered is ends = absurd cause
not_scanned name old new OutOfMemory status reads scans cause alone answered is ends =
    out_of_memory (scan_work name) [] old new status (not_of_words name) (was_asked (scan_work name) old.rack new.rack refl scans.lasts)
    (works-reads [] old.desk new.desk false reads) (stands name old new OutOfMemory reads.unchanged is) ends

-- the same, by the name as it is passed
pub scanned_by : (name : Option (Bor (List ℕ))) (old new : World) (report : ScanReport) (status : ℕ)
    → OnlyReads old.desk new.desk false → Scans (Ok report) old.rack new.rack → AnswersFile old.desk name (Ok report)
    → (IsTrue old.desk.tells → AllTell new.rack
    → IsScanOf (option_map (λ (n : Bor (List ℕ)). old.desk.files n.now) name) (views_of old.rack) (views_of new.rack) (Ok report))
    → Ends (scan_lines report) (scanned_status report) old.out new.out status
    → IsRun (scan_work (option_map (λ (n : Bor (List ℕ)). n.now) name)) old new status
scanned_by name old new report status reads scans opens answer ends =
    scanned (option_map (λ (n : Bor (List ℕ)). n.now) name) old new report status reads scans (file_answer old.desk name (Ok report) opens)
    (λ t all. subst (λ (file : Option (Option (List ℕ))). IsScanOf file (views_of old.rack) (views_of new.rack) (Ok report))
    (file_of old.desk.files name) (answer t all))
    ends

pub not_scanned_by : (name : Option (Bor (List ℕ))) (old new : World) (why : ReadRefusal) (status : ℕ)
    → OnlyReads old.desk new.desk (is_read_fault {T = ScanReport} (Err why)) → Scans (Err why) old.rack new.rack → IsOfReading why → AnswersNamed {T = ScanReport} old.desk name (Err why)
    → (IsTrue old.desk.tells → AllTell new.rack
    → IsScanOf (option_map (λ (n : Bor (List ℕ)). old.desk.files n.now) name) (views_of old.rack) (views_of new.rack) (Err why))
    → Ends (fault_line (read_fault why)) (status_of (read_fault why)) old.out new.out status
    → IsRun (scan_work (option_map (λ (n : Bor (List ℕ)). n.now) name)) old new status
not_scanned_by name old new why status reads scans cause answers answer ends =
    not_scanned (option_map (λ (n : Bor (List ℕ)). n.now) name) old new why status reads scans cause (sized_alone name why answers.size)
    (file_answer {T = ScanReport} old.desk name (Err why) answers.file)
    (λ d. subst (λ (file : Option (Option (List ℕ))). IsScanOf file (views_of old.rack) (views_of new.rack) (Err why))
    (file_of old.desk.files name) (answer d.0 (d.1 refl)))
    ends
