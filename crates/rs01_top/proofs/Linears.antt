-- What holds of a run that reads a medium into an image in rising order.
use Rattle.std.proofs.Common.{ℕ, List, [], refl, ap, inl, inr, arith, false, Bor}
use Rattle.std.specs.Prelude.{IsTrue, Option, Result, Ok, Err}
use Rattle.std.specs.Option.{option_map, unwrap_or}
use Rattle.rs01_outside.specs.DeskState.{WorksOn}
use Rattle.rs01_outside.specs.Files.{SameElsewhere}
use Rattle.rs01_rack.specs.Rack.{AllTell}
use Rattle.rs01_linear.specs.Lasting as lasting
use Rattle.rs01_linear.specs.Medium.{AnswersNamed, Found}
use Rattle.rs01_linear.specs.Course.{Manner}
use Rattle.rs01_linear.specs.Outcome.{IsLeftAt, IsReadInto, Reads, RefusesBy}
use Rattle.rs01_linear.specs.Refusal.{LeavesAll, TellsFaults, is_read_fault, is_write_fault}
use Rattle.rs01_linear.specs.Spared.{StaysGood}
use Rattle.rs01_linear.specs.declared.refusal.ReadRefusal.{ReadRefusal}
use Rattle.rs01_report.specs.declared.reports.ReadReport.{ReadReport}
use Rattle.rs01_report.specs.Faults.{fault_line, status_of}
use Rattle.rs01_report.specs.Texts.{read_lines}
use Rattle.rs01_top.specs.Faults.{read_fault}
use Rattle.rs01_top.specs.Outside.{World}
use Rattle.rs01_top.specs.Read.{linear_reading, read_status, read_work}
use Rattle.rs01_top.specs.Run.{Ends, IsRun}
use Rattle.rs01_top.proofs.Endings.{rack_lasts}
use Rattle.rs01_top.proofs.Readings.{Fits, not_read, read, told_as, worked_by}

-- what was left and told, and where it was left
abbrev IsRead : Manner → List ℕ → World → World → ReadReport → Found → Type 0
IsRead manner image old new told f = IsReadInto f.known manner (unwrap_or (old.desk.files image) []) old.rack new.rack (new.desk.files image) told

abbrev IsLeft : Manner → List ℕ → World → World → Found → Type 0
IsLeft manner image old new f = IsLeftAt f.known manner (unwrap_or (old.desk.files image) []) old.rack new.rack (old.desk.files image) (new.desk.files image)

fits_linear : (image : List ℕ) (ecc : Option (List ℕ)) (manner : Manner) (old new : World) → (IsTrue old.desk.tells → SameElsewhere image old.desk.files new.desk.files)
    → lasting.RackLasts old.rack new.rack → Fits (linear_reading image ecc manner) (IsRead manner image old new) (IsLeft manner image old new) old new
fits_linear image ecc manner old new elsewhere lasts = record {
  done = λ medium report d p.
      let counts = lasts.asks (d.1 refl) in
      record {
        files = record { there = p.file_is; elsewhere = elsewhere d.0 };
        views = p.views_are;
        asks = record { more = counts.more; shown = counts.shown; counted = counts.counted };
        lines = ap (λ (r : ReadReport). read_lines r image) p.told_is;
        number = ap read_status p.told_is;
      };
  whole = λ medium report p. record { passed = medium.known.sectors; inside = omega arith; views = p.views_are; file = inl p.file_is };
  left = λ medium left. record { passed = left.passed; inside = left.inside; views = left.views_are; file = inr left.file_is };
}

-- by the name of the file as it is passed
abbrev ToldBy : (image : List ℕ) → Option (Bor (List ℕ)) → Manner → World → World → Result ReadReport ReadRefusal → Type 0
ToldBy image name manner old new result =
    IsTrue old.desk.tells → AllTell new.rack
    → Reads (option_map (λ (n : Bor (List ℕ)). old.desk.files n.now) name) manner old.rack new.rack (old.desk.files image) (new.desk.files image) result

pub read_by : (image : List ℕ) (name : Option (Bor (List ℕ))) (jump tries : ℕ) (old new : World) (report : ReadReport) (status : ℕ)
    → WorksOn image old.desk new.desk false false → StaysGood old.desk new.desk name image old.rack new.rack → AnswersNamed old.desk name (Ok report)
    → lasting.RackLasts old.rack new.rack → RefusesBy (Ok report) old.rack new.rack → ToldBy image name (record { jump = jump; tries = tries }) old new (Ok report)
    → Ends (read_lines report image) (read_status report) old.out new.out status
    → IsRun (read_work image (option_map (λ (n : Bor (List ℕ)). n.now) name) jump tries) old new status
read_by image name jump tries old new report status works stays answers lasts by is ends =
    let manner : Manner = record { jump = jump; tries = tries } in
    let ecc = option_map (λ (n : Bor (List ℕ)). n.now) name in
    read (linear_reading image ecc manner) (IsRead manner image old new) (IsLeft manner image old new) old new report status
    (fits_linear image ecc manner old new works.elsewhere lasts) (worked_by (linear_reading image ecc manner) name old new (Ok report) refl works stays tt answers) (rack_lasts old.rack new.rack lasts) by
    (told_as (linear_reading image ecc manner) (IsRead manner image old new) (IsLeft manner image old new) name old new (Ok report) refl is) ends

pub not_read_by : (image : List ℕ) (name : Option (Bor (List ℕ))) (jump tries : ℕ) (old new : World) (why : ReadRefusal) (status : ℕ)
    → WorksOn image old.desk new.desk (is_read_fault {T = ReadReport} (Err why)) (is_write_fault {T = ReadReport} (Err why))
    → StaysGood old.desk new.desk name image old.rack new.rack → LeavesAll old.desk new.desk why
    → lasting.RackLasts old.rack new.rack → RefusesBy {T = ReadReport} (Err why) old.rack new.rack → TellsFaults why → AnswersNamed {T = ReadReport} old.desk name (Err why) → ToldBy image name (record { jump = jump; tries = tries }) old new (Err why)
    → Ends (fault_line (read_fault why)) (status_of (read_fault why)) old.out new.out status
    → IsRun (read_work image (option_map (λ (n : Bor (List ℕ)). n.now) name) jump tries) old new status
not_read_by image name jump tries old new why status works stays untouched lasts by cause answers is ends =
    let manner : Manner = record { jump = jump; tries = tries } in
    let ecc = option_map (λ (n : Bor (List ℕ)). n.now) name in
    not_read (linear_reading image ecc manner) (IsRead manner image old new) (IsLeft manner image old new) old new why status
    (fits_linear image ecc manner old new works.elsewhere lasts) (worked_by (linear_reading image ecc manner) name old new (Err why) refl works stays untouched answers) (rack_lasts old.rack new.rack lasts) by cause
    (told_as (linear_reading image ecc manner) (IsRead manner image old new) (IsLeft manner image old new) name old new (Err why) refl is) ends
