-- What a scan answers.
use Rattle.std.proofs.Common.{◌≡◌, ℕ, ◌≤◌, List, [], length, map, refl, sym, ap, ◌∙◌, subst, arith, None, Some, get_or}
use Rattle.std.specs.Prelude.{Option, Result, Ok, Err, IsOkAnd}
use Rattle.std.specs.List.{range_with_len}
use Rattle.std.specs.Option.{ForSome, option_map, unwrap_or}
use Rattle.std.specs.declared.alloc.AllocError.{AllocError}
use Rattle.rs01_layers.specs.Layout.{layers_of}
use Rattle.rs01_outside.specs.DriveView.{DriveView}
use Rattle.rs01_rack.specs.Rack.{AllTell, RackState, views_of}
use Rattle.rs01_ecchead.specs.Erased.{Known, count_in, counts_of}
use Rattle.rs01_ecchead.specs.Opened.{opened_as}
use Rattle.rs01_ecchead.specs.declared.opened.Ecc.{Ecc}
use Rattle.rs01_linear.specs.Medium.{Finds, Found, IsFound, IsMedium, found, known_of}
use Rattle.rs01_linear.specs.declared.medium.Medium.{Medium}
use Rattle.rs01_linear.specs.declared.refusal.ReadRefusal.{ReadRefusal}
use Rattle.rs01_linear.specs.declared.refusal.ReadRefusal.TheVariants as refusal
use Rattle.rs01_linear.proofs.AnswerLemmas.{numbered}
use Rattle.rs01_linear.proofs.LastingLemmas.{drive_there, lasts_then, told_before}
use Rattle.rs01_report.specs.declared.reports.ScanReport.{ScanReport}
use Rattle.rs01_verify.specs.Fullness.{fullest_of}
use Rattle.rs01_verify.specs.Scan.{BreaksOff, IsScanOf, IsScanned, Scans, scan_fullest, scan_report, scan_to}
use Rattle.rs01_verify.specs.Scanned.{EndsAsking, HasAsked, HasStopped, IsKept, lost_below}
use Rattle.rs01_verify.specs.declared.tally.Tally.{Tally}

pub ends_stopped : (medium : Medium) (old now : RackState) (answer : Result Tally AllocError) (e : AllocError) → answer ≡ Err e
    → HasStopped medium old now → EndsAsking medium old now answer
ends_stopped medium old now answer e is stopped = subst (EndsAsking medium old now) (sym is) stopped

-- how full the layers are, by the counts that were kept
pub fullest_told : (o : Option Ecc) (known : Known) (views : List DriveView) (n : ℕ) (counts e : List ℕ)
    → ((ecc : Ecc) → o ≡ Some ecc → counts ≡ map (lost_below known views ecc n) (range_with_len 0 (layers_of ecc.head.sectors ecc.head.parity)))
    → ((ecc : Ecc) → o ≡ Some ecc → ecc.head.sectors ≡ n)
    → option_map (λ ecc. fullest_of counts ecc.head.parity) o ≡ option_map (scan_fullest known views) (option_map (λ ecc. opened_as ecc e) o)
unfolding counts_of count_in
fullest_told None known views n counts e held all = refl
fullest_told (Some ecc) known views n counts e held all =
    ap (λ xs. Some (fullest_of xs ecc.head.parity))
    (held ecc refl ∙ ap (λ m. map (lost_below known views ecc m) (range_with_len 0 (layers_of ecc.head.sectors ecc.head.parity))) (sym (all ecc refl)))

-- nothing was asked for
breaks_before : (medium : Result Found ReadRefusal) (old new : List DriveView) → new ≡ old → BreaksOff medium old new
unfolding scan_to
breaks_before (Ok medium) old new same = (0, omega arith, same)
breaks_before (Err why) old new same = same

-- no medium was found
pub answer_none : (file : Option (Option (List ℕ))) (answer : Result ScanReport ReadRefusal) (told why : ReadRefusal) (old new : List DriveView) → answer ≡ Err told
    → told ≡ why → IsFound file old (Err why) → new ≡ old → IsScanOf file old new answer
answer_none file answer told why old new is from first same =
    rw is (rw from (record { first = first; left = breaks_before (found file old) old new same }))

-- memory ran out on the way
pub scans_stopped : (answer : Result ScanReport ReadRefusal) (why : ReadRefusal) (medium : Medium) (old mid new : RackState)
    → answer ≡ Err why → why ≡ refusal.OutOfMemory
    → Finds (Ok medium) old mid → HasStopped medium mid new → Scans answer old new
scans_stopped answer why medium old mid new is from finds stopped =
    rw is (rw from (record { number = tt; lasts = lasts_then old mid new finds.lasts stopped.lasts; cause = tt }))

left_by : (o : Result Found ReadRefusal) (file : Option (Option (List ℕ))) (medium : Medium) (old new : List DriveView)
    → IsOkAnd o (IsMedium file medium)
    → (n : ℕ) × (n ≤ medium.extent.sectors) × (new ≡ scan_to (known_of medium) old n) → BreaksOff o old new
left_by (Ok f) file medium old new is left =
    subst (λ (known : Known). (n : ℕ) × (n ≤ known.sectors) × (new ≡ scan_to known old n)) (sym is.known_is) left
left_by (Err why) file medium old new is left = absurd is

pub answer_stopped : (file : Option (Option (List ℕ))) (answer : Result ScanReport ReadRefusal) (why : ReadRefusal) (medium : Medium) (old mid new : RackState)
    → answer ≡ Err why → why ≡ refusal.OutOfMemory
    → Finds (Ok medium) old mid → HasStopped medium mid new → AllTell new
    → (AllTell mid → IsFound file (views_of old) (Ok medium))
    → IsScanOf file (views_of old) (views_of new) answer
answer_stopped file answer why medium old mid new is from finds stopped tell first =
    let early = told_before mid new stopped.lasts tell in
    let left = stopped.told tell in
    rw is (rw from (record {
      first = λ of. absurd of;
      left = left_by (found file (views_of old)) file medium (views_of old) (views_of new) (first early)
          (left.0, left.1, left.2 ∙ ap (λ (v : List DriveView). scan_to (known_of medium) v left.0) (finds.same early));
    }))

-- all sectors were asked for
pub scans_all : (medium : Medium) (report : ScanReport) (t : Tally) (old mid new : RackState)
    → Finds (Ok medium) old mid → HasAsked medium medium.extent.sectors mid new t → report.unreadable ≡ t.missing.items → Scans (Ok report) old new
scans_all medium report t old mid new finds asked is = record {
  number = numbered medium old mid new finds asked.lasts;
  lasts = lasts_then old mid new finds.lasts asked.lasts;
  cause = λ k b a was there.
      let between = drive_there old.drives mid.drives k b finds.lasts.number was in
      let early = (finds.lasts.each k b (get_or mid.drives k b) was between).later in
      let late = asked.rose k (get_or mid.drives k b) a between there in
      let same : length report.unreadable ≡ length t.missing.items = ap length is in
      omega (arith, early, late, same);
}

told_by : (o : Result Found ReadRefusal) (file : Option (Option (List ℕ))) (medium : Medium) (report : ScanReport) (old new : List DriveView)
    → IsOkAnd o (IsMedium file medium)
    → new ≡ scan_to (known_of medium) old medium.extent.sectors
    → ((f : Found) → IsMedium file medium f → report ≡ scan_report f old)
    → IsOkAnd o (IsScanned old new report)
told_by (Ok f) file medium report old new is views told = record {
  views = views ∙ ap (λ (known : Known). scan_to known old known.sectors) (sym is.known_is);
  told = told f is;
}
told_by (Err why) file medium report old new is views told = absurd is

pub answer_all : (file : Option (Option (List ℕ))) (medium : Medium) (report : ScanReport) (t : Tally) (old mid new : RackState)
    → Finds (Ok medium) old mid → HasAsked medium medium.extent.sectors mid new t → AllTell new
    → (AllTell mid → IsFound file (views_of old) (Ok medium))
    → ((f : Found) (views now : List DriveView) → IsMedium file medium f → IsKept medium views medium.extent.sectors now t → report ≡ scan_report f views)
    → IsScanOf file (views_of old) (views_of new) (Ok report)
answer_all file medium report t old mid new finds asked tell first told =
    let early = told_before mid new asked.lasts tell in
    let kept = asked.told tell in
    let same = finds.same early in
    told_by (found file (views_of old)) file medium report (views_of old) (views_of new) (first early)
    (kept.views_are ∙ ap (λ (v : List DriveView). scan_to (known_of medium) v medium.extent.sectors) same)
    (λ f is. told f (views_of mid) (views_of new) is kept ∙ ap (scan_report f) same)

-- what is told of the medium that was found, by what was kept
pub report_told : (f : Found) (views : List DriveView) (medium : Medium) (file : Option (Option (List ℕ))) (report : ScanReport) (t : Tally) (now : List DriveView)
    → IsMedium file medium f → IsKept medium views medium.extent.sectors now t
    → report.sectors ≡ medium.extent.sectors → report.unreadable ≡ t.missing.items → report.altered ≡ t.altered.items
    → report.fullest ≡ option_map (λ ecc. fullest_of t.counts.items ecc.head.parity) medium.ecc
    → ForSome medium.ecc (λ ecc. ecc.head.sectors ≡ medium.extent.sectors)
    → report ≡ scan_report f views
unfolding scan_report
report_told f views medium file report t now is kept sectors unreadable altered fullest all =
    let n = medium.extent.sectors in
    let layers = fullest_told medium.ecc (known_of medium) views n t.counts.items (unwrap_or (unwrap_or file None) []) kept.counts all in
    (λ i. record { sectors = sectors i; unreadable = (unreadable ∙ kept.unreadable) i; altered = (altered ∙ kept.altered) i; fullest = (fullest ∙ layers) i })
    ∙ (λ i. scan_report (record { known = sym is.known_is i; opened = sym is.opened_is i }) views)
