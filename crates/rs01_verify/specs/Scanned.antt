-- What is kept while the sectors of a medium are asked for in rising order.
use Rattle.std.specs.Prelude.{ℕ, ◌≡◌, ◌≤◌, ◌==◌, ◌&&◌, List, [], ◌++◌, count_by, filter, length, map, replicate, Option, Result, Ok, Err}
use Rattle.std.specs.Option.{ForSome}
use Rattle.std.specs.List.{range_with_len}
use Rattle.std.specs.declared.alloc.AllocError.{AllocError}
use Rattle.rs01_layers.specs.Layout.{layer_of, layers_of}
use Rattle.rs01_outside.specs.DriveView.{DriveView}
use Rattle.rs01_rack.specs.Rack.{AllTell, RackState, views_of}
use Rattle.rs01_ecchead.specs.Erased.{Known}
use Rattle.rs01_ecchead.specs.declared.condition.Condition.{Condition}
use Rattle.rs01_ecchead.specs.declared.condition.Condition.TheVariants as condition
use Rattle.rs01_ecchead.specs.declared.opened.Ecc.{Ecc}
use Rattle.rs01_linear.specs.Lasting.{AllRoseBy, RackLasts}
use Rattle.rs01_linear.specs.Medium.{Found, IsMedium, known_of}
use Rattle.rs01_linear.specs.declared.asking.Asked.{Asked}
use Rattle.rs01_linear.specs.declared.asking.Asked.TheVariants as asked
use Rattle.rs01_linear.specs.declared.medium.Medium.{Medium}
use Rattle.rs01_report.specs.declared.reports.ScanReport.{ScanReport}
use Rattle.rs01_verify.specs.Scan.{asked_at, is_altered, is_lost, is_unreadable, scan_report, scan_to}
use Rattle.rs01_verify.specs.Tallied.{IsCounted, altered_part, counts_after, missing_part}
use Rattle.rs01_verify.specs.declared.tally.Tally.{Tally}

-- how a sector is found that was asked for: an unreadable one counts as missing
abbrev pub condition_from : Asked → Condition
condition_from asked.Read = condition.Sound
condition_from asked.Unreadable = condition.Missing
condition_from asked.Altered = condition.Altered

-- there is a count for each layer of the error correction file, and none is above n
abbrev pub CountedFor : Medium → ℕ → Tally → Type 0
CountedFor medium n tally = ForSome medium.ecc (λ ecc. IsCounted (layers_of ecc.head.sectors ecc.head.parity) n tally)

-- no sector was asked for yet
pub record IsBare (medium : Medium) (tally : Tally) : Type 0 where
  pub unreadable : tally.missing.items ≡ []
  pub altered : tally.altered.items ≡ []
  pub counts : ForSome medium.ecc (λ ecc. tally.counts.items ≡ replicate (layers_of ecc.head.sectors ecc.head.parity) 0)

-- a sector that was found so was added
pub record Keeps (medium : Medium) (s : ℕ) (found : Condition) (old new : Tally) : Type 0 where
  pub unreadable : new.missing.items ≡ old.missing.items ++ missing_part found s
  pub altered : new.altered.items ≡ old.altered.items ++ altered_part found s
  pub counts : ForSome medium.ecc (λ ecc. new.counts.items ≡ counts_after found (layer_of ecc.head.sectors ecc.head.parity s) old.counts.items)

-- how many of the first n sectors weren't read and lie in layer l
abbrev pub lost_below : Known → List DriveView → Ecc → ℕ → ℕ → ℕ
lost_below known views ecc n l =
    count_by (λ s. is_lost (asked_at known views s) && (layer_of ecc.head.sectors ecc.head.parity s == l)) (range_with_len 0 n)

-- what is kept once the first n sectors were asked for, where the drives tell
pub record IsKept (medium : Medium) (views : List DriveView) (n : ℕ) (now : List DriveView) (tally : Tally) : Type 0 where
  pub views_are : now ≡ scan_to (known_of medium) views n
  pub unreadable : tally.missing.items ≡ filter (λ s. is_unreadable (asked_at (known_of medium) views s)) (range_with_len 0 n)
  pub altered : tally.altered.items ≡ filter (λ s. is_altered (asked_at (known_of medium) views s)) (range_with_len 0 n)
  pub counts : ForSome medium.ecc (λ ecc. tally.counts.items
      ≡ map (lost_below (known_of medium) views ecc n) (range_with_len 0 (layers_of ecc.head.sectors ecc.head.parity)))

-- a report is that of any medium that this one was opened as, and of any drives, once all sectors were asked for
abbrev pub TellsScan : Medium → Tally → ScanReport → Type 0
TellsScan medium tally report =
    (file : Option (Option (List ℕ))) (found : Found) (views now : List DriveView) → IsMedium file medium found
    → IsKept medium views medium.extent.sectors now tally → report ≡ scan_report found views

-- the first n sectors were asked for, whatever the drives tell
pub record HasAsked (medium : Medium) (n : ℕ) (old now : RackState) (tally : Tally) : Type 0 where
  pub lasts : RackLasts old now
  pub rose : AllRoseBy (length tally.missing.items) old now
  pub counted : CountedFor medium n tally
  pub told : AllTell now → IsKept medium (views_of old) n (views_of now) tally

-- some first sectors were asked for
pub record HasStopped (medium : Medium) (old now : RackState) : Type 0 where
  pub lasts : RackLasts old now
  pub told : AllTell now → (n : ℕ) × (n ≤ medium.extent.sectors) × (views_of now ≡ scan_to (known_of medium) (views_of old) n)

-- how asking for all sectors ends: with all of them asked for, or broken off for want of memory
abbrev pub EndsAsking : Medium → RackState → RackState → Result Tally AllocError → Type 0
EndsAsking medium old now (Ok tally) = HasAsked medium medium.extent.sectors old now tally
EndsAsking medium old now (Err e) = HasStopped medium old now
