-- Reading into an image file that is ready, by how the reading of its windows ended.
use Rattle.std.proofs.Common.{◌≡◌, ℕ, ◌-◌, ◌^◌, ◌<◌, List, length, true, false, refl, sym, ap, subst, ◌∙◌, arith, min}
use Rattle.std.specs.Prelude.{Bool, IfErr, IsTrue, OnOk, Option, Result, Ok, Err, not}
use Rattle.std.specs.Option.{option_map}
use Rattle.std.proofs.lemmas.List.{length-take-le}
use Rattle.rs01_layers.specs.declared.shape.Shape.{Shape}
use Rattle.rs01_outside.specs.Causes.{Rose}
use Rattle.rs01_outside.specs.DeskState.{DeskState, WorksOn}
use Rattle.rs01_rack.specs.Rack.{RackState, views_of}
use Rattle.rs01_report.specs.declared.reports.ReadReport.{ReadReport}
use Rattle.rs01_ecchead.specs.Erased.{image_len}
use Rattle.rs01_states.specs.Sparing.{layer_count}
use Rattle.rs01_linear.specs.Medium.{Found, known_of}
use Rattle.rs01_linear.specs.Lasting.{AllRoseBy, RackLasts}
use Rattle.rs01_linear.specs.Outcome.{asked_since}
use Rattle.rs01_linear.specs.Refusal.{IsOfWork, WorksBy, is_read_fault, is_write_fault}
use Rattle.rs01_linear.specs.Report.{IsFresh, report_of, unread}
use Rattle.rs01_linear.specs.declared.prepared.Prepared.{Prepared}
use Rattle.rs01_linear.specs.declared.refusal.ReadRefusal.{ReadRefusal}
use Rattle.rs01_linear.specs.declared.refusal.ReadRefusal.TheVariants.{OutOfMemory}
use Rattle.rs01_linear.proofs.LaidLemmas.{Fills, Sized, width, width_le}
use Rattle.rs01_linear.proofs.LastingLemmas.{rack_lasts}
use Rattle.rs01_linear.proofs.MarkLemmas.{sized_by}
use Rattle.rs01_linear.proofs.RoseLemmas.{unread_told}
use Rattle.rs01_turns.specs.Moments.{Moment}
use Rattle.rs01_workers.specs.Work.{stop_or}
use Rattle.rs01_workers.specs.declared.results.WindowStop.{WindowStop}
use Rattle.rs01_workers.specs.declared.results.WindowStop.TheVariants as window_stop
use Rattle.rs01_reader.specs.Courses.{CourseSeen, start_of}
use Rattle.rs01_reader.specs.Settled.{IsShapeOf}
use Rattle.rs01_reader.specs.declared.setup.Setup.{Setup}
use Rattle.rs01_reader.specs.declared.stop.Stop.{Stop}
use Rattle.rs01_reader.specs.declared.stop.Stop.TheVariants as stop
use Rattle.rs01_adaptive.specs.Beginning.{IsBegun, IsWorked}
use Rattle.rs01_adaptive.specs.Noting.{IsBlank, told_of}
use Rattle.rs01_adaptive.specs.Outcome.{whole}
use Rattle.rs01_adaptive.specs.Preparing.{CanBegin, EndsAs, ReadsReady, refusal_by}
use Rattle.rs01_adaptive.specs.Sights.{Along, IsFinished, IsQuiet, MayGoOn, Sight, StoppedBy, sight_of}
use Rattle.rs01_adaptive.specs.Whole.{Whole, block_left, known_in, sector_left}
use Rattle.rs01_adaptive.specs.Windows.{ReadsWindows, StopsBy}
use Rattle.rs01_adaptive.specs.declared.noting.Noted.{Noted}
use Rattle.rs01_adaptive.proofs.Guarding.{guarded_stays, prepared_stays}
use Rattle.rs01_adaptive.proofs.LeftLemmas.{left_long}
use Rattle.rs01_adaptive.proofs.ReadLemmas.{reads_nothing, reads_somewhere, reads_to_the_end}
use Rattle.rs01_adaptive.proofs.Starting.{Starts, start_sight, starts_may, starts_sound}
use Rattle.rs01_adaptive.proofs.Unprepared.{opened_shape, shape_of}

-- each sector that is left has its own bytes
pub fills_of : (w : Whole) → Sized (known_in w) → Fills (known_in w) (sector_left w)
fills_of w sized s below =
    length-take-le (width (known_in w) s) (block_left w s) (omega (arith, left_long w s below sized.fits, width_le (known_in w) s sized))

fills_found : (setup : Setup) (f : Found) (shape : Option Shape) (y : List ℕ) (rack : RackState) → f.known ≡ known_of setup.medium.now → Fills f.known (sector_left (whole f shape setup.tries y (views_of rack)))
fills_found setup f shape y rack same =
    fills_of (whole f shape setup.tries y (views_of rack)) (subst Sized (sym same) (sized_by setup.medium.now.extent (option_map (λ ecc. ecc.sums.list) setup.medium.now.ecc)))

-- what was there at the start
pub begins : (setup : Setup) (shape : Option Shape) (prepared : Prepared) (desk : DeskState) → CanBegin setup desk → IsFresh setup.medium.now.extent.sectors prepared.fates.items
    → IsShapeOf setup.medium.now.ecc shape → Starts setup shape prepared.fates.items desk
begins setup shape prepared desk can fresh shape_is = record { all = fresh.all; tries = can.tries; shape_is = shape_is; named = can.named; places = can.places }

-- counts of faults

-- what a reading under way shares with every end of it
counts_by : (f g : Sight) (read_failed write_failed : Bool) → Along f g → (IsTrue read_failed → Rose f.moment.desk.read_faults g.moment.desk.read_faults)
    → (IsTrue (not read_failed) → g.moment.desk.read_faults ≡ f.moment.desk.read_faults) → (IsTrue write_failed → Rose f.moment.desk.write_faults g.moment.desk.write_faults)
    → (IsTrue (not write_failed) → g.moment.desk.write_faults ≡ f.moment.desk.write_faults) → WorksOn f.moment.setting.image f.moment.desk g.moment.desk read_failed write_failed
counts_by f g read_failed write_failed along read_rose read_kept write_rose write_kept = record {
  tells = along.desk.tells;
  elsewhere = λ t. (along.desk.files t).elsewhere;
  reads_later = along.desk.reads_rise;
  writes_later = along.desk.writes_rise;
  read_rose = read_rose;
  read_kept = read_kept;
  write_rose = write_rose;
  write_kept = write_kept;
}

-- however it stopped, the count of the fault's kind alone rose
works_by : (f g : Sight) (why : Stop) → IsQuiet f.moment → Along f g → StoppedBy g.moment why
    → WorksBy {T = ReadReport} f.moment.setting.image f.moment.desk g.moment.desk (Err (refusal_by why)) × IsOfWork (refusal_by why)
works_by f g stop.ReadFault quiet along by =
    (counts_by f g true false along (λ h. omega (arith, by.0, quiet.reads, along.kept_reads)) (λ h. cc) (λ h. cc) (λ h. by.1 ∙ along.kept_writes ∙ sym quiet.writes), tt)
works_by f g stop.WriteFault quiet along by =
    (counts_by f g false true along (λ h. cc) (λ h. by.0 ∙ along.kept_reads ∙ sym quiet.reads) (λ h. omega (arith, by.1, quiet.writes, along.kept_writes)) (λ h. cc), tt)
works_by f g stop.OutOfMemory quiet along by =
    (counts_by f g false false along (λ h. cc) (λ h. by.reads ∙ along.kept_reads ∙ sym quiet.reads) (λ h. cc) (λ h. by.writes ∙ along.kept_writes ∙ sym quiet.writes), tt)

stop_of : (m : Moment) (stopped : WindowStop Stop) → StopsBy m stopped → StoppedBy m (stop_or stopped stop.OutOfMemory)
stop_of m (window_stop.Stopped why) by = by
stop_of m window_stop.OutOfMemory by = by

works_stopped : (f g : Sight) (ended : Result Unit (WindowStop Stop)) (why : ReadRefusal) → IsQuiet f.moment → Along f g → IfErr ended (StopsBy g.moment) → EndsAs ended (Err why)
    → WorksBy {T = ReadReport} f.moment.setting.image f.moment.desk g.moment.desk (Err why) × IsOfWork why
works_stopped f g (Ok u) why quiet along by ends = absurd ends
works_stopped f g (Err stopped) why quiet along by ends =
    subst (λ (r : ReadRefusal). WorksBy {T = ReadReport} f.moment.setting.image f.moment.desk g.moment.desk (Err r) × IsOfWork r) (sym ends)
    (works_by f g (stop_or stopped stop.OutOfMemory) quiet along (stop_of g.moment stopped by))

-- no fault came
works_quietly : (f g : Sight) (result : Result ReadReport ReadRefusal) → is_read_fault result ≡ false → is_write_fault result ≡ false
    → IsQuiet f.moment → Along f g → IsQuiet g.moment → WorksBy f.moment.setting.image f.moment.desk g.moment.desk result
works_quietly f g result no_read no_write quiet along still =
    counts_by f g (is_read_fault result) (is_write_fault result) along (λ h. absurd (never (is_read_fault result) no_read h)) (λ h. still.reads ∙ along.kept_reads ∙ sym quiet.reads)
    (λ h. absurd (never (is_write_fault result) no_write h)) (λ h. still.writes ∙ along.kept_writes ∙ sym quiet.writes)
  where
    never : (b : Bool) → b ≡ false → IsTrue b → ⊥
    never true e h = cc
    never false e h = cc

finished_of : (g : Sight) (ended : Result Unit (WindowStop Stop)) → OnOk ended (IsFinished g) → EndsAs ended (Ok tt) → IsFinished g
finished_of g (Ok u) over ends = over
finished_of g (Err stopped) over ends = absurd ends

-- nothing was done
works_nothing : (image : List ℕ) (desk : DeskState) → WorksBy {T = ReadReport} image desk desk (Err OutOfMemory)
works_nothing image desk = record {
  tells = refl;
  elsewhere = λ t k ne. refl;
  reads_later = omega arith;
  writes_later = omega arith;
  read_rose = λ h. cc;
  read_kept = λ h. refl;
  write_rose = λ h. cc;
  write_kept = λ h. refl;
}

-- drives

lasts_along : (f g : Sight) → g.moment.rack.asks < 2 ^ 128 → Along f g → RackLasts f.moment.rack g.moment.rack
lasts_along f g small along = record {
  number = along.drives.number;
  each = along.drives.each;
  later = along.drives.asks_rise;
  asks = λ tell.
      let rise = along.asks tell in
      record { more = rise.more; shown = rise.shown; counted = omega (arith, rise.counted, small) };
}

-- each sector that is told to be unreadable raised each count
rose_told : (f g : Sight) (told : ReadReport) (asked surplus sectors : ℕ) → Along f g → IsFresh sectors f.moment.fates → told ≡ told_of g.moment.fates g.noted asked surplus
    → AllRoseBy (length told.unreadable) f.moment.rack g.moment.rack
unfolding told_of report_of
rose_told f g told asked surplus sectors along fresh is k b a was there =
    let rose = along.drives.rose k b a was there in
    let same : length told.unreadable ≡ unread g.moment.fates = ap (λ (r : ReadReport). length r.unreadable) is ∙ unread_told g.moment.fates in
    let none = fresh.none in
    omega (arith, rose, same, none)

-- how it ends

-- before anything was asked for
pub ready_nothing :
    (setup : Setup) (prepared : Prepared) (rack : RackState) (desk : DeskState) → rack.asks < 2 ^ 128
    → ReadsReady setup prepared desk desk (Err OutOfMemory) rack rack
ready_nothing setup prepared rack desk small =
    let shape = shape_of setup.medium.now.ecc in
    record {
      works = works_nothing setup.image.now desk;
      causes = tt;
      lasts = rack_lasts rack small;
      unreadable = tt;
      told = record {
        reads = λ f before t tell found ready.
            reads_nothing setup f shape before prepared rack desk OutOfMemory tell found ready (opened_shape setup.medium.now.ecc) (fills_found setup f shape _ rack found.known_is);
        stays = λ before t ready. prepared_stays setup before prepared desk ready;
      };
    }

-- the windows may be read
pub may_begin : (setup : Setup) (prepared : Prepared) (desk : DeskState) (course : CourseSeen) (noted : Noted) (rack : RackState) → CanBegin setup desk
    → IsFresh setup.medium.now.extent.sectors prepared.fates.items → IsBegun setup.medium.now prepared.fates.items desk course noted → MayGoOn (sight_of setup course rack desk noted 0)
may_begin setup prepared desk course noted rack can fresh b =
    subst (λ (v : CourseSeen). MayGoOn (sight_of setup v rack desk noted 0)) (sym b.course_is)
    (starts_may setup b.shape prepared.fates.items rack desk noted (begins setup b.shape prepared desk can fresh b.shape_is) b.blank)

-- how many sectors something is known of once they were read
pub ended_few :
    (setup : Setup) (old new : CourseSeen) (noted noted' : Noted) (desk desk' : DeskState) (ended : Result Unit (WindowStop Stop)) (rack rack' : RackState)
    → MayGoOn (sight_of setup old rack desk noted 0) → ReadsWindows setup old new noted noted' desk desk' ended rack rack' → length new.fates < 2 ^ 32
ended_few setup old new noted noted' desk desk' ended rack rack' may reads =
    let all : length new.fates ≡ setup.medium.now.extent.sectors = (reads.along.sound may.sound).ready.fated in
    omega (arith, all, setup.medium.now.few_sectors)

-- what the reading of the windows began with and came to
record Ready (setup : Setup) (shape : Option Shape) (prepared : Prepared) (old new : CourseSeen) (noted noted' : Noted) (desk desk' : DeskState) (ended : Result Unit (WindowStop Stop)) (rack rack' : RackState) : Type 0 where
  pub starts : Starts setup shape prepared.fates.items desk
  pub blank : IsBlank (layer_count shape) noted
  pub old_is : old ≡ start_of shape prepared.fates.items desk.read_faults desk.write_faults
  pub went : ReadsWindows setup old new noted noted' desk desk' ended rack rack'

ready_of :
    (setup : Setup) (prepared : Prepared) (size asks : ℕ) (desk desk' : DeskState) (new : CourseSeen) (noted' : Noted) (ended : Result Unit (WindowStop Stop)) (rack rack' : RackState)
    → (w : IsWorked setup prepared size asks desk desk' new noted' ended rack rack')
    → Ready setup w.begun.shape prepared w.begun_course new w.begun_noted noted' desk desk' ended rack rack'
ready_of setup prepared size asks desk desk' new noted' ended rack rack' w = record {
  starts = begins setup w.begun.shape prepared desk w.can w.fresh w.begun.shape_is;
  blank = w.begun.blank;
  old_is = w.begun.course_is;
  went = w.reads;
}

went_along :
    (setup : Setup) (shape : Option Shape) (prepared : Prepared) (old new : CourseSeen) (noted noted' : Noted) (desk desk' : DeskState) (ended : Result Unit (WindowStop Stop)) (rack rack' : RackState)
    → (r : Ready setup shape prepared old new noted noted' desk desk' ended rack rack')
    → Along (start_sight setup shape prepared.fates.items rack desk noted) (sight_of setup new rack' desk' noted' r.went.window)
went_along setup shape prepared old new noted noted' desk desk' ended rack rack' r =
    subst (λ (v : CourseSeen). Along (sight_of setup v rack desk noted 0) (sight_of setup new rack' desk' noted' r.went.window)) r.old_is r.went.along

-- it was left somewhere, whatever of it is told
left_somewhere :
    (setup : Setup) (shape : Option Shape) (prepared : Prepared) (old new : CourseSeen) (noted noted' : Noted) (desk desk' : DeskState) (ended : Result Unit (WindowStop Stop)) (rack rack' : RackState) (why : ReadRefusal)
    → (r : Ready setup shape prepared old new noted noted' desk desk' ended rack rack')
    → rack'.asks < 2 ^ 128 → WorksBy {T = ReadReport} setup.image.now desk desk' (Err why) → IsOfWork why → ReadsReady setup prepared desk desk' (Err why) rack rack'
left_somewhere setup shape prepared old new noted noted' desk desk' ended rack rack' why r small works of =
    let f0 = start_sight setup shape prepared.fates.items rack desk noted in
    let g = sight_of setup new rack' desk' noted' r.went.window in
    let along = went_along setup shape prepared old new noted noted' desk desk' ended rack rack' r in
    let sound = starts_sound setup shape prepared.fates.items rack desk noted r.starts r.blank in
    record {
      works = works;
      causes = of;
      lasts = lasts_along f0 g small along;
      unreadable = tt;
      told = record {
        reads = λ f before t tell found ready.
            reads_somewhere setup f shape before prepared rack rack' desk desk' noted noted' new r.went.window why along sound t tell found ready r.blank r.starts.shape_is
            (fills_found setup f shape _ rack found.known_is);
        stays = λ before t ready. guarded_stays setup shape before prepared rack rack' desk desk' noted noted' new r.went.window along sound t ready;
      };
    }

quiet_at : (setup : Setup) (shape : Option Shape) (prepared : Prepared) (noted : Noted) (desk : DeskState) (rack : RackState) → IsQuiet (start_sight setup shape prepared.fates.items rack desk noted).moment
quiet_at setup shape prepared noted desk rack = record { reads = refl; writes = refl }

-- by a fault, or for want of memory
stopped_by :
    (setup : Setup) (shape : Option Shape) (prepared : Prepared) (old new : CourseSeen) (noted noted' : Noted) (desk desk' : DeskState) (ended : Result Unit (WindowStop Stop)) (rack rack' : RackState) (why : ReadRefusal)
    → Ready setup shape prepared old new noted noted' desk desk' ended rack rack' → rack'.asks < 2 ^ 128
    → EndsAs ended (Err why) → ReadsReady setup prepared desk desk' (Err why) rack rack'
stopped_by setup shape prepared old new noted noted' desk desk' ended rack rack' why r small ends =
    let f = start_sight setup shape prepared.fates.items rack desk noted in
    let g = sight_of setup new rack' desk' noted' r.went.window in
    let along = went_along setup shape prepared old new noted noted' desk desk' ended rack rack' r in
    let works = works_stopped f g ended why (quiet_at setup shape prepared noted desk rack) along r.went.stopped ends in
    left_somewhere setup shape prepared old new noted noted' desk desk' ended rack rack' why r small works.0 works.1

-- once all was read, for want of memory
lacking_at :
    (setup : Setup) (shape : Option Shape) (prepared : Prepared) (old new : CourseSeen) (noted noted' : Noted) (desk desk' : DeskState) (ended : Result Unit (WindowStop Stop)) (rack rack' : RackState)
    → Ready setup shape prepared old new noted noted' desk desk' ended rack rack' → rack'.asks < 2 ^ 128
    → EndsAs ended (Ok tt) → ReadsReady setup prepared desk desk' (Err OutOfMemory) rack rack'
lacking_at setup shape prepared old new noted noted' desk desk' ended rack rack' r small ends =
    let f = start_sight setup shape prepared.fates.items rack desk noted in
    let g = sight_of setup new rack' desk' noted' r.went.window in
    let along = went_along setup shape prepared old new noted noted' desk desk' ended rack rack' r in
    let over = finished_of g ended r.went.finished ends in
    left_somewhere setup shape prepared old new noted noted' desk desk' ended rack rack' OutOfMemory r small
    (works_quietly f g (Err OutOfMemory) refl refl (quiet_at setup shape prepared noted desk rack) along over.over.quiet) tt

-- all was read and told
read_by :
    (setup : Setup) (shape : Option Shape) (prepared : Prepared) (old new : CourseSeen) (noted noted' : Noted) (desk desk' : DeskState) (ended : Result Unit (WindowStop Stop)) (rack rack' : RackState)
    (asked surplus : ℕ) (told : ReadReport) → Ready setup shape prepared old new noted noted' desk desk' ended rack rack'
    → EndsAs ended (Ok tt) → IsFresh setup.medium.now.extent.sectors prepared.fates.items → rack'.asks < 2 ^ 128
    → told ≡ told_of new.fates noted' asked surplus → asked ≡ asked_since rack rack' → surplus ≡ prepared.size - image_len (known_of setup.medium.now)
    → ReadsReady setup prepared desk desk' (Ok told) rack rack'
read_by setup shape prepared old new noted noted' desk desk' ended rack rack' asked surplus told r ends fresh small is asks rest =
    let f0 = start_sight setup shape prepared.fates.items rack desk noted in
    let g = sight_of setup new rack' desk' noted' r.went.window in
    let along = went_along setup shape prepared old new noted noted' desk desk' ended rack rack' r in
    let sound = starts_sound setup shape prepared.fates.items rack desk noted r.starts r.blank in
    let over = finished_of g ended r.went.finished ends in
    record {
      works = works_quietly f0 g (Ok told) refl refl (quiet_at setup shape prepared noted desk rack) along over.over.quiet;
      causes = tt;
      lasts = lasts_along f0 g small along;
      unreadable = rose_told f0 g told asked surplus setup.medium.now.extent.sectors along fresh is;
      told = record {
        reads = λ f before t tell found ready.
            reads_to_the_end setup f shape before prepared rack rack' desk desk' noted noted' new r.went.window asked surplus told along over t tell found ready r.blank r.starts.shape_is small is asks rest;
        stays = λ before t ready. guarded_stays setup shape before prepared rack rack' desk desk' noted noted' new r.went.window along sound t ready;
      };
    }

-- what is answered of a reading whose windows were read

pub ready_stopped :
    (setup : Setup) (prepared : Prepared) (size asks : ℕ) (desk desk' : DeskState) (new : CourseSeen) (noted' : Noted) (ended : Result Unit (WindowStop Stop)) (rack rack' : RackState) (why : ReadRefusal)
    → IsWorked setup prepared size asks desk desk' new noted' ended rack rack' → rack'.asks < 2 ^ 128 → EndsAs ended (Err why) → ReadsReady setup prepared desk desk' (Err why) rack rack'
ready_stopped setup prepared size asks desk desk' new noted' ended rack rack' why w small ends =
    stopped_by setup w.begun.shape prepared w.begun_course new w.begun_noted noted' desk desk' ended rack rack' why
    (ready_of setup prepared size asks desk desk' new noted' ended rack rack' w) small ends

pub ready_lacking :
    (setup : Setup) (prepared : Prepared) (size asks : ℕ) (desk desk' : DeskState) (new : CourseSeen) (noted' : Noted) (ended : Result Unit (WindowStop Stop)) (rack rack' : RackState)
    → IsWorked setup prepared size asks desk desk' new noted' ended rack rack' → rack'.asks < 2 ^ 128 → EndsAs ended (Ok tt) → ReadsReady setup prepared desk desk' (Err OutOfMemory) rack rack'
ready_lacking setup prepared size asks desk desk' new noted' ended rack rack' w small ends =
    lacking_at setup w.begun.shape prepared w.begun_course new w.begun_noted noted' desk desk' ended rack rack'
    (ready_of setup prepared size asks desk desk' new noted' ended rack rack' w) small ends

pub ready_read :
    (setup : Setup) (prepared : Prepared) (size asks : ℕ) (desk desk' : DeskState) (new : CourseSeen) (noted' : Noted) (ended : Result Unit (WindowStop Stop)) (rack rack' : RackState)
    (asked surplus : ℕ) (told : ReadReport) → IsWorked setup prepared size asks desk desk' new noted' ended rack rack' → rack'.asks < 2 ^ 128 → EndsAs ended (Ok tt)
    → told ≡ told_of new.fates noted' asked surplus → asked ≡ min (rack'.asks - asks) (2 ^ 64 - 1) → surplus ≡ size - image_len (known_of setup.medium.now)
    → ReadsReady setup prepared desk desk' (Ok told) rack rack'
ready_read setup prepared size asks desk desk' new noted' ended rack rack' asked surplus told w small ends is counted rest =
    read_by setup w.begun.shape prepared w.begun_course new w.begun_noted noted' desk desk' ended rack rack' asked surplus told
    (ready_of setup prepared size asks desk desk' new noted' ended rack rack' w) ends w.fresh small is
    (counted ∙ ap (λ n. min (rack'.asks - n) (2 ^ 64 - 1)) w.asks_are) (rest ∙ ap (λ n. n - image_len (known_of setup.medium.now)) w.size_is)
