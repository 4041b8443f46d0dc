-- How the drives' counts rose for the sectors that no drive answered for.
use Rattle.std.proofs.Common.{◌≡◌, ℕ, zero, suc, ◌+◌, ◌<◌, ◌≤◌, ◌^◌, ◌∙◌, ap, arith, sym, refl, subst, Bool, false, cond, Some, List, [], ◌∷◌, ◌++◌, length, count_by, get_or}
use Rattle.std.specs.Prelude.{Option, slice_get}
use Rattle.std.specs.List.{range_with_len}
use Rattle.std.specs.Option.{option_map_or}
use Rattle.std.proofs.Math.ListN.{set}
use Rattle.std.proofs.lemmas.List.{length-set}
use Rattle.std.proofs.lemmas.List.Sums.{length-filter, sum_by-cons, sum_by_push}
use Rattle.std.proofs.lemmas.Option.{slice_get-get_or}
use Rattle.rs01_outside.specs.DriveState.{DriveState}
use Rattle.rs01_rack.specs.Asking.{RoseBy}
use Rattle.rs01_rack.specs.Rack.{AllRose, AtDrive, RackState}
use Rattle.rs01_ecchead.specs.declared.condition.Condition.{Condition}
use Rattle.rs01_ecchead.specs.declared.condition.Condition.TheVariants as condition
use Rattle.rs01_report.specs.declared.reports.ReadReport.{ReadReport}
use Rattle.rs01_linear.specs.Course.{fate_of}
use Rattle.rs01_linear.specs.Judged.{fate_by}
use Rattle.rs01_linear.specs.Lasting.{AllRoseBy, RackLasts}
use Rattle.rs01_linear.specs.Report.{IsFresh, is_told, report_of, sectors_told, tells_of, unread}
use Rattle.rs01_linear.specs.Standing.{Keeps}
use Rattle.rs01_linear.specs.declared.asking.Asked.{Asked}
use Rattle.rs01_linear.specs.declared.asking.Asked.TheVariants as asked
use Rattle.rs01_linear.specs.declared.fate.Fate.{Fate}
use Rattle.rs01_linear.specs.declared.fate.Fate.TheVariants.{LeftOut}
use Rattle.rs01_linear.specs.declared.reading.Reading.{Reading}
use Rattle.rs01_linear.specs.declared.telling.Told.TheVariants as told
use Rattle.rs01_linear.proofs.LastingLemmas.{drive_there, lasts_then, rack_lasts}

-- how much a fate adds to the count
abbrev pub adds : Fate → ℕ
adds fate = cond (is_told told.Unreadable fate) 1 0

unread_cons : (fate : Fate) (fates : List Fate) → unread (fate ∷ fates) ≡ adds fate + unread fates
unread_cons fate fates = sum_by-cons (λ f. cond (is_told told.Unreadable f) 1 0) fate fates

-- a fate that is put in a place
pub unread_set : (fates : List Fate) (s : ℕ) (fate : Fate) → unread (set fates s fate) ≤ unread fates + adds fate
unread_set [] s fate = omega arith
unread_set (x ∷ fates) zero fate = omega (arith, unread_cons x fates, unread_cons fate fates)
unread_set (x ∷ fates) (suc s) fate =
    omega (arith, unread_cons x fates, unread_cons x (set fates s fate), unread_set fates s fate)

pub same_rose : (o : Option DriveState) (b a : DriveState) → o ≡ Some b → o ≡ Some a → RoseBy 0 b.faults a.faults
same_rose o b a was is =
    let e : Some b ≡ Some a = sym was ∙ is in
    let drive : b ≡ a = cc in
    subst (λ (d : DriveState). RoseBy 0 b.faults d.faults) drive (omega arith)

-- nothing was asked for
pub keeps_same : (reading : Reading) (rack : RackState) → rack.asks < 2 ^ 128 → Keeps reading reading rack rack
keeps_same reading rack small = record {
  lasts = rack_lasts rack small;
  all = refl;
  rose = λ k b a was is.
      let same = same_rose (slice_get rack.drives k) b a was is in
      omega (arith, same);
}

pub rose_of : (kind : Asked) (old new : RackState) → RackLasts old new → (kind ≡ asked.Unreadable → AllRose 0 old new) → AllRoseBy (adds (fate_of kind)) old new
rose_of asked.Read old new lasts cause k b a was is = omega (arith, (lasts.each k b a was is).later)
rose_of asked.Altered old new lasts cause k b a was is = omega (arith, (lasts.each k b a was is).later)
rose_of asked.Unreadable old new lasts cause k b a was is = cause refl k (omega arith) b a was is

-- a sector was asked for
pub keeps_asked : (reading reading' : Reading) (old new : RackState) (s : ℕ) (kind : Asked) → RackLasts old new → (kind ≡ asked.Unreadable → AllRose 0 old new)
    → reading'.fates.items ≡ set reading.fates.items s (fate_of kind) → Keeps reading reading' old new
keeps_asked reading reading' old new s kind lasts cause put = record {
  lasts = lasts;
  all = ap length put ∙ length-set reading.fates.items s (fate_of kind);
  rose = λ k b a was is.
      let rose = rose_of kind old new lasts cause k b a was is in
      let same : unread reading'.fates.items ≡ unread (set reading.fates.items s (fate_of kind)) = ap unread put in
      omega (arith, rose, same, unread_set reading.fates.items s (fate_of kind));
}

-- and one after another
pub keeps_then : (one two three : Reading) (rack rack' rack'' : RackState) → Keeps one two rack rack' → Keeps two three rack' rack'' → Keeps one three rack rack''
keeps_then one two three rack rack' rack'' first then = record {
  lasts = lasts_then rack rack' rack'' first.lasts then.lasts;
  all = then.all ∙ first.all;
  rose = λ k b a was is.
      let there = drive_there rack.drives rack'.drives k b first.lasts.number was in
      let early = first.rose k b (get_or rack'.drives k b) was there in
      let late = then.rose k (get_or rack'.drives k b) a there is in
      omega (arith, early, late);
}

-- what was judged is fresh
adds_none : (found : Condition) → adds (fate_by found) ≡ 0
adds_none condition.Sound = refl
adds_none condition.Missing = refl
adds_none condition.Altered = refl

pub fresh_more : (n : ℕ) (found : Condition) (fate : Fate) (old new : List Fate) → fate ≡ fate_by found → new ≡ old ++ fate ∷ [] → length new ≡ n + 1 → IsFresh n old → IsFresh (n + 1) new
fresh_more n found fate old new is put long fresh = record {
  all = long;
  none =
      ap unread put ∙ sum_by_push (λ f. cond (is_told told.Unreadable f) 1 0) old fate
      ∙ (let z : adds fate ≡ 0 = ap adds is ∙ adds_none found in omega (arith, z, fresh.none));
}

-- the sectors that are told are as many as the fates that tell of them
count_range : (p : Fate → Bool) (g : ℕ → Bool) (a : ℕ) (fates : List Fate) → ((k : ℕ) → k < length fates → g (a + k) ≡ p (get_or fates k LeftOut))
    → count_by g (range_with_len a (length fates)) ≡ count_by p fates
count_range p g a [] same = refl
count_range p g a (x ∷ fates) same =
    let here : g a ≡ p x = ap g (let z : a ≡ a + 0 = omega arith in z) ∙ same 0 (omega arith) in
    let later = count_range p g (a + 1) fates (λ k below. ap g (let z : a + 1 + k ≡ a + suc k = omega arith in z) ∙ same (suc k) (omega (arith, below))) in
    sum_by-cons (λ n. cond (g n) 1 0) a (range_with_len (a + 1) (length fates))
    ∙ (λ i. cond (here i) 1 0 + later i)
    ∙ sym (sum_by-cons (λ f. cond (p f) 1 0) x fates)

pub unread_told : (fates : List Fate) → length (sectors_told fates told.Unreadable) ≡ unread fates
unread_told fates =
    length-filter (tells_of fates told.Unreadable) (range_with_len 0 (length fates))
    ∙ count_range (is_told told.Unreadable) (tells_of fates told.Unreadable) 0 fates
    (λ k below. ap (tells_of fates told.Unreadable) (let z : 0 + k ≡ k = omega arith in z) ∙ ap (λ o. option_map_or (is_told told.Unreadable) o false) (slice_get-get_or fates k LeftOut below))

-- what is told of a reading
pub rose_told : (reading reading' : Reading) (old new : RackState) (report : ReadReport) (sectors asked surplus : ℕ) → Keeps reading reading' old new → IsFresh sectors reading.fates.items
    → report ≡ report_of reading'.fates.items asked surplus → AllRoseBy (length report.unreadable) old new
unfolding report_of
rose_told reading reading' old new report sectors asked surplus kept fresh is k b a was there =
    let rose = kept.rose k b a was there in
    let same : length report.unreadable ≡ unread reading'.fates.items = ap (λ (r : ReadReport). length r.unreadable) is ∙ unread_told reading'.fates.items in
    omega (arith, rose, same, fresh.none)

-- counts that rose after the drives had been asked for something else
pub rose_after : (n : ℕ) (one two : RackState) (three : List DriveState) → RackLasts one two → ((k : ℕ) → AtDrive two.drives three k (λ b a. RoseBy n b.faults a.faults))
    → (k : ℕ) → AtDrive one.drives three k (λ b a. RoseBy n b.faults a.faults)
rose_after n one two three lasts rose k b a was is =
    let there = drive_there one.drives two.drives k b lasts.number was in
    let early = (lasts.each k b (get_or two.drives k b) was there).later in
    let late = rose k (get_or two.drives k b) a there is in
    omega (arith, early, late)
