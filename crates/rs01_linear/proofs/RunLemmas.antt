-- How far a reading has come after some sectors.
use Rattle.std.proofs.Common.{◌≡◌, ℕ, ◌+◌, ◌≤◌, ◌∙◌, arith, sym, subst, false, List}
use Rattle.std.specs.Prelude.{IsTrue, Option, Result, Ok, Err}
use Rattle.rs01_outside.specs.DeskState.{DeskState, WorksOn}
use Rattle.rs01_outside.specs.DriveView.{DriveView}
use Rattle.rs01_outside.proofs.States.{works-then}
use Rattle.rs01_rack.specs.Rack.{AllTell, RackState}
use Rattle.rs01_ecchead.specs.Erased.{Known}
use Rattle.rs01_linear.specs.Course.{Manner, manner_of}
use Rattle.rs01_linear.specs.Lasting.{RackLasts}
use Rattle.rs01_linear.specs.Medium.{known_of}
use Rattle.rs01_linear.specs.Spared.{GuardsRun}
use Rattle.rs01_linear.specs.Standing.{Halted, Halts, HasRun, Keeps, PassesAll, PutsRun, Stands, TellsPasses}
use Rattle.rs01_linear.specs.declared.medium.Medium.{Medium}
use Rattle.rs01_linear.specs.declared.reading.Reading.{Reading}
use Rattle.rs01_linear.specs.declared.refusal.ReadRefusal.{ReadRefusal}
use Rattle.rs01_linear.proofs.FlushLemmas.{run_failed, run_written}
use Rattle.rs01_linear.proofs.LastingLemmas.{told_before}
use Rattle.rs01_linear.proofs.MarkLemmas.{sized_by}
use Rattle.rs01_linear.proofs.RoseLemmas.{keeps_then}
use Rattle.rs01_linear.proofs.SpareLemmas.{spared_run}

-- what holds after the sectors below s
pub record SoFar (known : Known) (manner : Manner) (name : List ℕ) (s : ℕ) (desk desk' : DeskState) (rack rack' : RackState) (reading reading' : Reading) : Type 0 where
  pub works : WorksOn name desk desk' false false
  pub kept : Keeps reading reading' rack rack'
  pub told :
      (y : List ℕ) (views : List DriveView) → IsTrue desk.tells → AllTell rack' → Stands known manner y views 0 rack reading (desk.files name)
      → Stands known manner y views s rack' reading' (desk'.files name)
  pub run : HasRun known s reading'
  pub stays : (y : List ℕ) → IsTrue desk.tells → GuardsRun known y 0 reading (desk.files name) → GuardsRun known y s reading' (desk'.files name)

-- one sector more
pub so_far_more : (known : Known) (manner : Manner) (name : List ℕ) (s : ℕ) (desk desk' desk'' : DeskState) (rack rack' rack'' : RackState) (reading reading' reading'' : Reading)
    → SoFar known manner name s desk desk' rack rack' reading reading'
    → WorksOn name desk' desk'' false false → Keeps reading' reading'' rack' rack''
    → ((y : List ℕ) (views : List DriveView) → IsTrue desk'.tells → AllTell rack'' → Stands known manner y views s rack' reading' (desk'.files name)
    → Stands known manner y views (s + 1) rack'' reading'' (desk''.files name))
    → HasRun known (s + 1) reading''
    → ((y : List ℕ) → IsTrue desk'.tells → GuardsRun known y s reading' (desk'.files name) → GuardsRun known y (s + 1) reading'' (desk''.files name))
    → SoFar known manner name (s + 1) desk desk'' rack rack'' reading reading''
so_far_more known manner name s desk desk' desk'' rack rack' rack'' reading reading' reading'' so works kept step run stays = record {
  works = works-then name desk desk' desk'' false false so.works works;
  kept = keeps_then reading reading' reading'' rack rack' rack'' so.kept kept;
  told = λ y views t tell st. step y views (subst IsTrue (sym so.works.tells) t) tell (so.told y views t (told_before rack' rack'' kept.lasts tell) st);
  run = run;
  stays = λ y t guards. stays y (subst IsTrue (sym so.works.tells) t) (so.stays y t guards);
}

-- the next one wasn't passed
pub so_far_halted : (known : Known) (manner : Manner) (name : List ℕ) (s : ℕ) (desk desk' desk'' : DeskState) (rack rack' rack'' : RackState) (reading reading' : Reading)
    → SoFar known manner name s desk desk' rack rack' reading reading' → s + 1 ≤ known.sectors → RackLasts rack' rack''
    → ((y : List ℕ) (views : List DriveView) → IsTrue desk'.tells → AllTell rack'' → Stands known manner y views s rack' reading' (desk'.files name)
    → Halts known manner y views s rack'' (desk''.files name))
    → (y : List ℕ) (views : List DriveView) → IsTrue desk.tells → AllTell rack'' → Stands known manner y views 0 rack reading (desk.files name)
    → Halted known manner y views rack'' (desk''.files name)
so_far_halted known manner name s desk desk' desk'' rack rack' rack'' reading reading' so inside lasts step y views t tell st =
    let halts = step y views (subst IsTrue (sym so.works.tells) t) tell (so.told y views t (told_before rack' rack'' lasts tell) st) in
    record { passed = s + 1; inside = inside; views_are = halts.views_are; file_is = halts.file_is }

pub ends_halted : {T E : Type 0} (known : Known) (manner : Manner) (y : List ℕ) (views : List DriveView) (rack : RackState) (reading : Reading) (file : Option (List ℕ)) (result : Result T E) (why : E)
    → result ≡ Err why → Halted known manner y views rack file → PassesAll known manner y views rack reading file result
ends_halted known manner y views rack reading file result why is halted = rw is halted

-- the last run was written
pub ends_passed : (medium : Medium) (jump tries : ℕ) (name : List ℕ) (s : ℕ) (desk desk' desk'' : DeskState) (rack rack' : RackState) (reading reading' is : Reading) (u : Unit {0})
    → s ≡ medium.extent.sectors → SoFar (known_of medium) (manner_of jump tries) name s desk desk' rack rack' reading reading'
    → (IsTrue desk'.tells → PutsRun desk'.files desk''.files name medium.extent.sectors reading' (Ok u)) → is.fates.items ≡ reading'.fates.items
    → TellsPasses {T = Unit {0}} {E = ReadRefusal} medium jump tries name desk desk'' reading is (Ok u) rack rack'
ends_passed medium jump tries name s desk desk' desk'' rack rack' reading reading' is u end here put fates =
    let known = known_of medium in
    let so = subst (λ n. SoFar known (manner_of jump tries) name n desk desk' rack rack' reading reading') end here in
    record {
      stands = λ y views t tell st.
          let stood = so.told y views t tell st in
          record {
            views_are = stood.follows.views_are;
            fates_are = fates ∙ stood.follows.fates_are;
            file_is =
                run_written known (manner_of jump tries) y views known.sectors reading' desk'.files desk''.files name u (sized_by medium.extent _) (omega arith) so.run stood.runs
                (put (subst IsTrue (sym so.works.tells) t));
          };
      stays = λ y t guards.
          spared_run known y known.sectors reading' desk'.files desk''.files name (Ok u) (sized_by medium.extent _) (omega arith) so.run (so.stays y t guards) (put (subst IsTrue (sym so.works.tells) t));
    }

-- its writing failed
pub ends_unwritten : {T : Type 0} (medium : Medium) (jump tries : ℕ) (name : List ℕ) (s : ℕ) (desk desk' desk'' : DeskState) (rack rack' : RackState) (reading reading' is : Reading) (result : Result T ReadRefusal) (cause why : ReadRefusal)
    → s ≡ medium.extent.sectors → SoFar (known_of medium) (manner_of jump tries) name s desk desk' rack rack' reading reading'
    → (IsTrue desk'.tells → PutsRun desk'.files desk''.files name medium.extent.sectors reading' (Err cause)) → result ≡ Err why
    → TellsPasses medium jump tries name desk desk'' reading is result rack rack'
ends_unwritten medium jump tries name s desk desk' desk'' rack rack' reading reading' is result cause why end here put ends =
    let known = known_of medium in
    let so = subst (λ n. SoFar known (manner_of jump tries) name n desk desk' rack rack' reading reading') end here in
    rw ends (record {
      stands = λ y views t tell st.
          let stood = so.told y views t tell st in
          record {
            passed = known.sectors;
            inside = omega arith;
            views_are = stood.follows.views_are;
            file_is =
                run_failed known (manner_of jump tries) y views known.sectors reading' desk'.files desk''.files name cause (sized_by medium.extent _) (omega arith) so.run stood.runs
                (put (subst IsTrue (sym so.works.tells) t));
          };
      stays = λ y t guards.
          spared_run known y known.sectors reading' desk'.files desk''.files name (Err cause) (sized_by medium.extent _) (omega arith) so.run (so.stays y t guards) (put (subst IsTrue (sym so.works.tells) t));
    })
