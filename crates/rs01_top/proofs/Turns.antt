-- What holds of a run that reads a medium into an image by turns.
use Rattle.std.proofs.Common.{◌≡◌, ℕ, List, [], refl, subst, ap, inl, inr, false, Bor}
use Rattle.std.specs.Prelude.{IsTrue, Option, Result, Ok, Err}
use Rattle.std.specs.Option.{option_map, unwrap_or}
use Rattle.rs01_outside.specs.DeskState.{DeskState, WorksOn}
use Rattle.rs01_outside.specs.Files.{SameElsewhere}
use Rattle.rs01_outside.specs.SinkState.{SinkState}
use Rattle.rs01_rack.specs.Rack.{AllTell, RackState, views_of}
use Rattle.rs01_linear.specs.Lasting as lasting
use Rattle.rs01_linear.specs.Medium.{AnswersNamed, Found}
use Rattle.rs01_linear.specs.Outcome.{RefusesBy}
use Rattle.rs01_linear.specs.Refusal.{LeavesAll, TellsFaults, is_read_fault, is_write_fault}
use Rattle.rs01_linear.specs.Spared.{StaysGood}
use Rattle.rs01_linear.specs.declared.refusal.ReadRefusal.{ReadRefusal}
use Rattle.rs01_report.specs.declared.reports.ReadReport.{ReadReport}
use Rattle.rs01_report.specs.Faults.{fault_line, status_of}
use Rattle.rs01_report.specs.Texts.{read_lines}
use Rattle.rs01_adaptive.specs.Outcome.{IsLeftAt, IsReadInto, OfWhole, Reads}
use Rattle.rs01_top.specs.Faults.{read_fault}
use Rattle.rs01_top.specs.Outside.{World, world}
use Rattle.rs01_top.specs.Read.{read_status}
use Rattle.rs01_top.specs.Run.{Ends, IsRun}
use Rattle.rs01_top.specs.Turned.{IsTurned, adaptive_work, turned_reading}
use Rattle.rs01_top.proofs.Endings.{rack_lasts}
use Rattle.rs01_top.proofs.Readings.{Fits, not_read, read, told_as, worked_by}

-- what was left and told, and where it was left
abbrev IsRead : ℕ → List ℕ → World → World → ReadReport → Found → Type 0
IsRead tries image old new told f = OfWhole f tries (unwrap_or (old.desk.files image) []) (views_of old.rack) (IsReadInto old.rack new.rack (new.desk.files image) told)

abbrev IsLeft : ℕ → List ℕ → World → World → Found → Type 0
IsLeft tries image old new f = OfWhole f tries (unwrap_or (old.desk.files image) []) (views_of old.rack) (IsLeftAt (views_of new.rack) (old.desk.files image) (new.desk.files image))

fits_turned : (image : List ℕ) (ecc : Option (List ℕ)) (tries : ℕ) (old new : World) → (IsTrue old.desk.tells → SameElsewhere image old.desk.files new.desk.files)
    → Fits (turned_reading image ecc tries) (IsRead tries image old new) (IsLeft tries image old new) old new
fits_turned image ecc tries old new elsewhere = record {
  done = λ medium report d p. record {
    shape = p.shape;
    shape_is = p.shape_is;
    fact = record {
      files = record { there = p.fact.file_is; elsewhere = elsewhere d.0 };
      views = p.fact.views_are;
      asks = record { more = p.fact.asks.more; shown = p.fact.asks.shown; counted = p.fact.asks.counted };
      lines = ap (λ (r : ReadReport). read_lines r image) p.fact.told_is;
      number = ap read_status p.fact.told_is;
    };
  };
  whole = λ medium report p. record { shape = p.shape; shape_is = p.shape_is; fact = inl (p.fact.file_is, p.fact.views_are) };
  left = λ medium left. record { shape = left.shape; shape_is = left.shape_is; fact = inr left.fact };
}

-- by the name of the file as it is passed
abbrev ToldBy : (image : List ℕ) → Option (Bor (List ℕ)) → ℕ → World → World → Result ReadReport ReadRefusal → Type 0
ToldBy image name tries old new result =
    IsTrue old.desk.tells → AllTell new.rack
    → Reads (option_map (λ (n : Bor (List ℕ)). old.desk.files n.now) name) tries old.rack new.rack (old.desk.files image) (new.desk.files image) result

turned_by : (image : List ℕ) (name : Option (Bor (List ℕ))) (tries : ℕ) (old new : World) (report : ReadReport) (status : ℕ)
    → WorksOn image old.desk new.desk false false → StaysGood old.desk new.desk name image old.rack new.rack → AnswersNamed old.desk name (Ok report)
    → lasting.RackLasts old.rack new.rack → RefusesBy (Ok report) old.rack new.rack → ToldBy image name tries old new (Ok report)
    → Ends (read_lines report image) (read_status report) old.out new.out status
    → IsRun (adaptive_work image (option_map (λ (n : Bor (List ℕ)). n.now) name) tries) old new status
turned_by image name tries old new report status works stays answers lasts by is ends =
    let ecc = option_map (λ (n : Bor (List ℕ)). n.now) name in
    read (turned_reading image ecc tries) (IsRead tries image old new) (IsLeft tries image old new) old new report status
    (fits_turned image ecc tries old new works.elsewhere) (worked_by (turned_reading image ecc tries) name old new (Ok report) refl works stays tt answers) (rack_lasts old.rack new.rack lasts) by
    (told_as (turned_reading image ecc tries) (IsRead tries image old new) (IsLeft tries image old new) name old new (Ok report) refl is) ends

not_turned_by : (image : List ℕ) (name : Option (Bor (List ℕ))) (tries : ℕ) (old new : World) (why : ReadRefusal) (status : ℕ)
    → WorksOn image old.desk new.desk (is_read_fault {T = ReadReport} (Err why)) (is_write_fault {T = ReadReport} (Err why))
    → StaysGood old.desk new.desk name image old.rack new.rack → LeavesAll old.desk new.desk why → lasting.RackLasts old.rack new.rack → RefusesBy {T = ReadReport} (Err why) old.rack new.rack → TellsFaults why → AnswersNamed {T = ReadReport} old.desk name (Err why)
    → ToldBy image name tries old new (Err why)
    → Ends (fault_line (read_fault why)) (status_of (read_fault why)) old.out new.out status
    → IsRun (adaptive_work image (option_map (λ (n : Bor (List ℕ)). n.now) name) tries) old new status
not_turned_by image name tries old new why status works stays untouched lasts by cause answers is ends =
    let ecc = option_map (λ (n : Bor (List ℕ)). n.now) name in
    not_read (turned_reading image ecc tries) (IsRead tries image old new) (IsLeft tries image old new) old new why status
    (fits_turned image ecc tries old new works.elsewhere) (worked_by (turned_reading image ecc tries) name old new (Err why) refl works stays untouched answers) (rack_lasts old.rack new.rack lasts) by cause
    (told_as (turned_reading image ecc tries) (IsRead tries image old new) (IsLeft tries image old new) name old new (Err why) refl is) ends

-- by what a reading by turns answered
pub told_turned :
    (image : List ℕ) (name : Option (Bor (List ℕ))) (tries : ℕ) (desk desk' : DeskState) (rack rack' : RackState) (out out' : SinkState) (answer : Result ReadReport ReadRefusal) (report : ReadReport) (status : ℕ)
    → answer ≡ Ok report → IsTurned image name tries desk desk' answer rack rack' → Ends (read_lines report image) (read_status report) out out' status
    → IsRun (adaptive_work image (option_map (λ (n : Bor (List ℕ)). n.now) name) tries) (world desk rack out) (world desk' rack' out') status
told_turned image name tries desk desk' rack rack' out out' answer report status is it ends =
    let p = subst (λ (a : Result ReadReport ReadRefusal). IsTurned image name tries desk desk' a rack rack') is it in
    turned_by image name tries (world desk rack out) (world desk' rack' out') report status p.works p.stays p.answers p.lasts p.refused p.told ends

pub told_not_turned :
    (image : List ℕ) (name : Option (Bor (List ℕ))) (tries : ℕ) (desk desk' : DeskState) (rack rack' : RackState) (out out' : SinkState) (answer : Result ReadReport ReadRefusal) (why : ReadRefusal) (status : ℕ)
    → answer ≡ Err why → IsTurned image name tries desk desk' answer rack rack' → Ends (fault_line (read_fault why)) (status_of (read_fault why)) out out' status
    → IsRun (adaptive_work image (option_map (λ (n : Bor (List ℕ)). n.now) name) tries) (world desk rack out) (world desk' rack' out') status
told_not_turned image name tries desk desk' rack rack' out out' answer why status is it ends =
    let p = subst (λ (a : Result ReadReport ReadRefusal). IsTurned image name tries desk desk' a rack rack') is it in
    not_turned_by image name tries (world desk rack out) (world desk' rack' out') why status p.works p.stays p.untouched p.lasts p.refused p.causes p.answers p.told ends
