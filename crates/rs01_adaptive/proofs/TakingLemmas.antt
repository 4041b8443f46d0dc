-- What taking the answers of a window makes of a reading.
use Rattle.std.proofs.Common.{◌≡◌, ℕ, ◌-◌, ◌<◌, ◌≤◌, ⊎_elim, List, [], length, map, drop, refl, sym, ap, subst, ◌∙◌, arith}
use Rattle.std.specs.Prelude.{All, IfErr, IsTrue, OnOk, not, Option, Some, None, Result, Ok, Err}
use Rattle.std.proofs.lemmas.Bool.{cases_Bool}
use Rattle.std.proofs.lemmas.List.{drop_all}
use Rattle.rs01_outside.specs.Causes.{Rose}
use Rattle.rs01_outside.specs.DeskState.{DeskState}
use Rattle.rs01_rack.specs.Rack.{RackState}
use Rattle.rs01_erase.specs.Correcting.{correct}
use Rattle.rs01_states.specs.Sparing.{layer_count}
use Rattle.rs01_workers.specs.Work.{Stands, Worked, layers_in}
use Rattle.rs01_reader.specs.Courses.{CourseSeen}
use Rattle.rs01_turns.specs.Moments.{Moment}
use Rattle.rs01_reader.specs.Settled.{Fits, Going, Settled, moment}
use Rattle.rs01_reader.specs.declared.setup.Setup.{Setup}
use Rattle.rs01_reader.specs.declared.stop.Stop.{Stop}
use Rattle.rs01_reader.specs.declared.stop.Stop.TheVariants as stop
use Rattle.rs01_workers.specs.declared.results.WindowStop.{WindowStop}
use Rattle.rs01_workers.specs.declared.results.WindowStop.TheVariants as window_stop
use Rattle.rs01_adaptive.specs.Windows.{ReadsWindows, StopsBy}
use Rattle.rs01_adaptive.specs.Settling.{IsWorked, SettlesAll}
use Rattle.rs01_adaptive.specs.Sights.{Along, FaultSince, IsFinished, IsOver, IsQuiet, IsSound, MayGoOn, Sight, StoppedBy, left_of, sight_of, window_layers}
use Rattle.rs01_adaptive.specs.declared.noting.Noted.{Noted}
use Rattle.rs01_adaptive.proofs.GivenLemmas.{once_few}
use Rattle.rs01_adaptive.proofs.GoingLemmas.{rose_before}
use Rattle.rs01_adaptive.proofs.WindowLemmas.{window_is}

-- a window that was gathered
pub record Gathered (s : Sight) (worked : Worked) : Type 0 where
  pub all : window_layers s ≡ layers_in worked.inputs
  pub fit : All (Fits s.moment) worked.inputs
  pub values : worked.outs ≡ map correct worked.inputs
  pub last : IsTrue worked.over → IsOver s
  pub full : IsTrue (not worked.over) → (0 < length worked.inputs) × MayGoOn s

sound_of : (s : Sight) (worked : Worked) → Gathered s worked → IsSound s
sound_of s worked is = ⊎_elim (λ over. (is.last over).sound) (λ more. (is.full (ap not more)).1.sound) (cases_Bool worked.over)

quiet_of : (s : Sight) (worked : Worked) → Gathered s worked → IsQuiet s.moment
quiet_of s worked is = ⊎_elim (λ over. (is.last over).quiet) (λ more. (is.full (ap not more)).1.quiet) (cases_Bool worked.over)

-- while no call failed
pub worked_of : (s : Sight) (worked : Worked) → Gathered s worked → FaultSince s.moment.kept_reads s.moment.kept_writes s.moment.desk None → IsWorked s worked
worked_of s worked is none = record {
  sound = sound_of s worked is;
  none_rose = none.1;
  layers = is.all;
  fit = is.fit;
  values = is.values;
}

-- a call had failed
halted_by : (m : Moment) (why : Stop) → IsQuiet m → FaultSince m.kept_reads m.kept_writes m.desk (Some why) → StoppedBy m why
halted_by m stop.ReadFault quiet since = (since.1, quiet.writes)
halted_by m stop.WriteFault quiet since = (quiet.reads, since)
halted_by m stop.OutOfMemory quiet since = absurd since

pub stopped_by : (setup : Setup) (course : CourseSeen) (rack : RackState) (desk : DeskState) (noted : Noted) (window : ℕ) (worked : Worked) (why : Stop) → Gathered (sight_of setup course rack desk noted window) worked
    → FaultSince course.kept_reads course.kept_writes desk (Some why) → StoppedBy (moment setup course rack desk) why
stopped_by setup course rack desk noted window worked why is since =
    halted_by (moment setup course rack desk) why (quiet_of (sight_of setup course rack desk noted window) worked is) since

quiet_still : (setup : Setup) (course : CourseSeen) (rack : RackState) (desk desk' : DeskState) (noted noted' : Noted) (worked : Worked) (u : Unit {0}) → IsQuiet (moment setup course rack desk)
    → SettlesAll setup noted noted' desk desk' worked (Ok u) → IsQuiet (moment setup course rack desk')
quiet_still setup course rack desk desk' noted noted' worked u quiet settles = record {
  reads = settles.changes.reads ∙ quiet.reads;
  writes = settles.changes.kept refl ∙ quiet.writes;
}

-- a layer that is settled is so whatever the desk is
same_settled : (setup : Setup) (course : CourseSeen) (rack : RackState) (desk desk' : DeskState) (l : ℕ) → Settled (moment setup course rack desk) l → Settled (moment setup course rack desk') l
same_settled setup course rack desk desk' l is = record { there = is.there; within = is.within; read = is.read }

same_going : (setup : Setup) (course : CourseSeen) (rack : RackState) (desk desk' : DeskState) (noted : Noted) (window : ℕ) → Going (moment setup course rack desk)
    → IsSound (sight_of setup course rack desk' noted window) → Going (moment setup course rack desk')
same_going setup course rack desk desk' noted window going sound = record {
  ready = sound.ready;
  set_up = going.set_up;
  spared = going.spared;
  all_given = going.all_given;
  given = λ l in_. (same_settled setup course rack desk desk' l (going.given l in_).0, (going.given l in_).1);
  reads_rise = sound.reads_rise;
  writes_rise = sound.writes_rise;
}

-- all answers were taken

pub none_left : (given : List ℕ) → drop (length given - 0) given ≡ []
none_left given = drop_all (length given - 0) given (omega arith)

pub taken_along : (setup : Setup) (course : CourseSeen) (rack : RackState) (desk desk' : DeskState) (noted noted' : Noted) (window : ℕ) (worked : Worked) (u : Unit {0}) → Gathered (sight_of setup course rack desk noted window) worked
    → FaultSince course.kept_reads course.kept_writes desk None → SettlesAll setup noted noted' desk desk' worked (Ok u)
    → Along (sight_of setup course rack desk noted window) (sight_of setup course rack desk' noted' 0)
taken_along setup course rack desk desk' noted noted' window worked u is none settles = settles.along course rack window (worked_of (sight_of setup course rack desk noted window) worked is none)

pub taken_going : (setup : Setup) (course : CourseSeen) (rack : RackState) (desk desk' : DeskState) (noted noted' : Noted) (window : ℕ) (worked : Worked) (u : Unit {0}) → Gathered (sight_of setup course rack desk noted window) worked
    → FaultSince course.kept_reads course.kept_writes desk None → SettlesAll setup noted noted' desk desk' worked (Ok u) → IsTrue (not worked.over)
    → MayGoOn (sight_of setup course rack desk' noted' 0) × (window_layers (sight_of setup course rack desk' noted' 0) ≡ [])
taken_going setup course rack desk desk' noted noted' window worked u is none settles more =
    let along = taken_along setup course rack desk desk' noted noted' window worked u is none settles in
    let sound = along.sound (sound_of (sight_of setup course rack desk noted window) worked is) in (
      record {
        going = same_going setup course rack desk desk' noted' 0 (is.full more).1.going sound;
        sound = sound;
        quiet = quiet_still setup course rack desk desk' noted noted' worked u (is.full more).1.quiet settles;
      },
      none_left course.given,
    )

pub taken_fewer : (setup : Setup) (course : CourseSeen) (rack : RackState) (desk desk' : DeskState) (noted noted' : Noted) (window : ℕ) (worked : Worked) → Gathered (sight_of setup course rack desk noted window) worked
    → IsTrue (not worked.over) → left_of (sight_of setup course rack desk' noted' 0) < left_of (sight_of setup course rack desk noted window)
taken_fewer setup course rack desk desk' noted noted' window worked is more =
    let sound = (is.full more).1.sound in
    let few : length course.given ≤ layer_count course.shape = once_few course.given (layer_count course.shape) sound.once.once sound.once.there in
    let size : length worked.inputs ≡ window = window_is (sight_of setup course rack desk noted window) worked.inputs sound.window_fits is.all in
    let full : 0 < length worked.inputs = (is.full more).0 in
    let fits : window ≤ length course.given = sound.window_fits in
    omega (arith, few, size, full, fits)

pub taken_finished : (setup : Setup) (course : CourseSeen) (rack : RackState) (desk desk' : DeskState) (noted noted' : Noted) (window : ℕ) (worked : Worked) (u : Unit {0}) → Gathered (sight_of setup course rack desk noted window) worked
    → FaultSince course.kept_reads course.kept_writes desk None → SettlesAll setup noted noted' desk desk' worked (Ok u) → IsTrue worked.over → IsFinished (sight_of setup course rack desk' noted' 0)
taken_finished setup course rack desk desk' noted noted' window worked u is none settles over =
    let along = taken_along setup course rack desk desk' noted noted' window worked u is none settles in
    let done = (is.last over).done in
    record {
      over = record {
        done = record { none_unread = done.none_unread; all_given = done.all_given };
        sound = along.sound (sound_of (sight_of setup course rack desk noted window) worked is);
        quiet = quiet_still setup course rack desk desk' noted noted' worked u (is.last over).quiet settles;
      };
      window_is = refl;
      none_rose = record {
        reads = λ rose. none.0 (subst (λ (n : ℕ). Rose course.kept_reads n) settles.changes.reads rose);
        writes = λ rose. none.1 (subst (λ (n : ℕ). Rose course.kept_writes n) (settles.changes.kept refl) rose);
      };
    }

-- putting them in place failed

pub failed_along : (setup : Setup) (course : CourseSeen) (rack : RackState) (desk desk' : DeskState) (noted noted' : Noted) (window : ℕ) (worked : Worked) (why : Stop) → Gathered (sight_of setup course rack desk noted window) worked
    → FaultSince course.kept_reads course.kept_writes desk None → SettlesAll setup noted noted' desk desk' worked (Err why)
    → Along (sight_of setup course rack desk noted window) (sight_of setup course rack desk' noted' window)
failed_along setup course rack desk desk' noted noted' window worked why is none settles = settles.along course rack window (worked_of (sight_of setup course rack desk noted window) worked is none)

pub failed_halted : (setup : Setup) (course : CourseSeen) (rack : RackState) (desk desk' : DeskState) (noted noted' : Noted) (window : ℕ) (worked : Worked) (why : Stop) → Gathered (sight_of setup course rack desk noted window) worked
    → SettlesAll setup noted noted' desk desk' worked (Err why) → StoppedBy (moment setup course rack desk') why
failed_halted setup course rack desk desk' noted noted' window worked why is settles =
    let sound = sound_of (sight_of setup course rack desk noted window) worked is in
    let quiet = quiet_of (sight_of setup course rack desk noted window) worked is in
    subst (λ (x : Stop). StoppedBy (moment setup course rack desk') x) (sym settles.halted)
    (settles.changes.reads ∙ quiet.reads, rose_before course.kept_writes desk.write_faults desk'.write_faults sound.writes_rise (settles.changes.rose refl))

-- the counts at the start are those that are kept
pub since_is : (reads writes kept_reads kept_writes : ℕ) (desk : DeskState) (o p : Option Stop) → reads ≡ kept_reads → writes ≡ kept_writes → o ≡ p → FaultSince reads writes desk o → FaultSince kept_reads kept_writes desk p
since_is reads writes kept_reads kept_writes desk o p one two three is =
    subst (λ (x : Option Stop). FaultSince kept_reads kept_writes desk x) three
    (subst (λ (n : ℕ). FaultSince kept_reads n desk o) two (subst (λ (n : ℕ). FaultSince n writes desk o) one is))

pub gather : (s : Sight) (worked : Worked) → window_layers s ≡ layers_in worked.inputs → All (Fits s.moment) worked.inputs → worked.outs ≡ map correct worked.inputs → (IsTrue worked.over → IsOver s)
    → (IsTrue (not worked.over) → (0 < length worked.inputs) × MayGoOn s) → Gathered s worked
gather s worked all fit values last full = record { all = all; fit = fit; values = values; last = last; full = full }

pub settles_as : (setup : Setup) (noted noted' : Noted) (desk desk' : DeskState) (worked : Worked) (r s : Result (Unit {0}) Stop) → r ≡ s → SettlesAll setup noted noted' desk desk' worked r → SettlesAll setup noted noted' desk desk' worked s
settles_as setup noted noted' desk desk' worked r s is settles = subst (λ (x : Result (Unit {0}) Stop). SettlesAll setup noted noted' desk desk' worked x) is settles

-- reading all windows

stops_as : (f : Sight) (r : Result (Unit {0}) (WindowStop Stop)) → IfErr r (Stands MayGoOn IsOver (λ s stop. StoppedBy s.moment stop) f) → IfErr r (StopsBy f.moment)
stops_as f (Ok u) stands = tt
stops_as f (Err (window_stop.Stopped why)) stands = stands
stops_as f (Err window_stop.OutOfMemory) stands = ⊎_elim (λ may. may.quiet) (λ over. over.quiet) stands

pub all_read : (setup setup' : Setup) (old new : CourseSeen) (rack rack' : RackState) (desk desk' : DeskState) (noted noted' : Noted) (window : ℕ) (result : Result (Unit {0}) (WindowStop Stop)) → setup' ≡ setup
    → Along (sight_of setup old rack desk noted 0) (sight_of setup' new rack' desk' noted' window) → OnOk result (IsFinished (sight_of setup' new rack' desk' noted' window))
    → IfErr result (Stands MayGoOn IsOver (λ s stop. StoppedBy s.moment stop) (sight_of setup' new rack' desk' noted' window))
    → ReadsWindows setup old new noted noted' desk desk' result rack rack'
all_read setup setup' old new rack rack' desk desk' noted noted' window result same along finished stands = record {
  window = window;
  along = subst (λ (s : Setup). Along (sight_of setup old rack desk noted 0) (sight_of s new rack' desk' noted' window)) same along;
  finished = subst (λ (s : Setup). OnOk result (IsFinished (sight_of s new rack' desk' noted' window))) same finished;
  stopped =
      subst (λ (s : Setup). IfErr result (StopsBy (moment s new rack' desk'))) same
      (stops_as (sight_of setup' new rack' desk' noted' window) result stands);
}

-- what was lent and is given back is what the reader had last
pub all_given : (setup : Setup) (old new new' : CourseSeen) (rack rack' rack'' : RackState) (desk desk' desk'' : DeskState) (noted noted' noted'' : Noted) (result : Result (Unit {0}) (WindowStop Stop))
    → ReadsWindows setup old new noted noted' desk desk' result rack rack' → new' ≡ new → noted'' ≡ noted' → desk'' ≡ desk' → rack'' ≡ rack'
    → ReadsWindows setup old new' noted noted'' desk desk'' result rack rack''
all_given setup old new new' rack rack' rack'' desk desk' desk'' noted noted' noted'' result read course_is noted_is desk_is rack_is =
    subst (λ (x : CourseSeen). ReadsWindows setup old x noted noted'' desk desk'' result rack rack'') (sym course_is)
    (subst (λ (x : Noted). ReadsWindows setup old new noted x desk desk'' result rack rack'') (sym noted_is)
    (subst (λ (x : DeskState). ReadsWindows setup old new noted noted' desk x result rack rack'') (sym desk_is)
    (subst (λ (x : RackState). ReadsWindows setup old new noted noted' desk desk' result rack x) (sym rack_is) read)))
