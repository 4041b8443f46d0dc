-- How passing one sector ends.
use Rattle.std.proofs.Common.{◌≡◌, ℕ, ◌+◌, ◌<◌, ◌∙◌, ap, arith, sym, subst, true, false, List, ◌++◌, length, take}
use Rattle.std.specs.Prelude.{Bool, IsTrue, Option, Result, Ok, Err}
use Rattle.rs01_outside.specs.DeskState.{DeskState}
use Rattle.rs01_outside.specs.DriveView.{DriveView}
use Rattle.rs01_rack.specs.Rack.{AllTell, RackState}
use Rattle.rs01_ecchead.specs.Erased.{Known}
use Rattle.rs01_linear.specs.Course.{Manner, manner_of}
use Rattle.rs01_linear.specs.Marking.{place}
use Rattle.rs01_linear.specs.Medium.{known_of}
use Rattle.rs01_linear.specs.Spared.{AsksBad, GuardsRun}
use Rattle.rs01_linear.specs.Standing.{Begins, Follows, Gives, HasRun, PutsRun, Stands, TellsPass, TellsTake}
use Rattle.rs01_linear.specs.declared.medium.Medium.{Medium}
use Rattle.rs01_linear.specs.declared.reading.Reading.{Reading}
use Rattle.rs01_linear.specs.declared.refusal.ReadRefusal.{ReadRefusal}
use Rattle.rs01_linear.proofs.FlushLemmas.{guards_empty, guards_more, guards_same, has_empty, has_more, has_same, place_skipped, run_failed, run_written, runs_empty, runs_more, runs_same}
use Rattle.rs01_linear.proofs.LaidLemmas.{width}
use Rattle.rs01_linear.proofs.MarkLemmas.{sized_by}
use Rattle.rs01_linear.proofs.SpareLemmas.{spared_run}

-- the same place in what is kept
pub follows_same : (known : Known) (manner : Manner) (y : List ℕ) (views : List DriveView) (s : ℕ) (rack : RackState) (one two : Reading) → two.fates.items ≡ one.fates.items → two.next ≡ one.next
    → Follows known manner y views s rack one → Follows known manner y views s rack two
follows_same known manner y views s rack one two fates next follows = record {
  views_are = follows.views_are;
  next_is = next ∙ follows.next_is;
  fates_are = fates ∙ follows.fates_are;
}

-- a sector wasn't read, and writing the run failed
pub skip_failed : {T : Type 0} (medium : Medium) (s jump tries : ℕ) (block name : List ℕ) (desk desk' : DeskState) (was taken is : Reading) (read : Bool) (result : Result T ReadRefusal) (cause why : ReadRefusal) (old new : RackState)
    → s < medium.extent.sectors → TellsTake medium s jump tries block was taken read old new → HasRun (known_of medium) s was → length taken.fates.items ≡ length was.fates.items
    → (IsTrue desk.tells → PutsRun desk.files desk'.files name s taken (Err cause)) → result ≡ Err why → TellsPass medium s jump tries name desk desk' was is result old new
skip_failed medium s jump tries block name desk desk' was taken is read result cause why old new below told has all put ends =
    let known = known_of medium in
    let sized = sized_by medium.extent _ in
    let has' = has_same known s was taken all told.first_is told.bytes_are has in
    rw ends (record {
      stands = λ y views t tell st.
          record {
            views_are = (told.taken y views tell st.follows).follows.views_are;
            file_is =
                run_failed known (manner_of jump tries) y views s taken desk.files desk'.files name cause sized (omega (arith, below)) has'
                (runs_same known (manner_of jump tries) y views s was taken (desk.files name) told.first_is told.bytes_are st.runs) (put t);
          };
      run = tt;
      stays = λ y t guards.
          spared_run known y s taken desk.files desk'.files name (Err cause) sized (omega (arith, below)) has'
          (guards_same known y s was taken (desk.files name) told.first_is (told.bad y guards.guards.erased).later guards) (put t);
    })

-- it wasn't read, and the run was written
pub skip_done : (medium : Medium) (s jump tries : ℕ) (block name : List ℕ) (desk desk' : DeskState) (was taken put is : Reading) (read : Bool) (u : Unit {0}) (old new : RackState)
    → s < medium.extent.sectors → TellsTake medium s jump tries block was taken read old new → read ≡ false → HasRun (known_of medium) s was → length taken.fates.items ≡ length was.fates.items
    → (IsTrue desk.tells → PutsRun desk.files desk'.files name s taken (Ok u)) → put.fates.items ≡ taken.fates.items → Begins s taken put
    → is.fates.items ≡ put.fates.items → is.next ≡ put.next → is.bytes.items ≡ put.bytes.items → is.first ≡ s + 1
    → TellsPass {T = Unit {0}} {E = ReadRefusal} medium s jump tries name desk desk' was is (Ok u) old new
skip_done medium s jump tries block name desk desk' was taken put is read u old new below told not_read has all written fates begins fates' next bytes first =
    let known = known_of medium in
    let sized = sized_by medium.extent _ in
    let has' = has_same known s was taken all told.first_is told.bytes_are has in
    record {
      stands = λ y views t tell st.
          let took = told.taken y views tell st.follows in
          record {
            follows = follows_same known (manner_of jump tries) y views (s + 1) new taken is (fates' ∙ fates) (next ∙ begins.next_is) took.follows;
            runs =
                runs_empty known (manner_of jump tries) y views (s + 1) is (desk'.files name) first (bytes ∙ begins.bytes_are)
                (place_skipped known (manner_of jump tries) y views s block (desk'.files name) sized below (subst (Gives known (manner_of jump tries) y views s block) not_read took.gives)
                (run_written known (manner_of jump tries) y views s taken desk.files desk'.files name u sized (omega (arith, below)) has'
                (runs_same known (manner_of jump tries) y views s was taken (desk.files name) told.first_is told.bytes_are st.runs) (written t)));
          };
      run = has_empty known (s + 1) is (ap length (fates' ∙ fates) ∙ all ∙ has.all) first (bytes ∙ begins.bytes_are);
      stays = λ y t guards.
          let later = (told.bad y guards.guards.erased).later in
          guards_empty known y (s + 1) is (desk'.files name) first (subst (AsksBad known y) (sym (fates' ∙ fates)) later)
          (spared_run known y s taken desk.files desk'.files name (Ok u) sized (omega (arith, below)) has' (guards_same known y s was taken (desk.files name) told.first_is later guards) (written t));
    }

-- a sector was read, and its bytes stand behind those of the run
pub record Gathered (medium : Medium) (s jump tries : ℕ) (file : Option (List ℕ)) (was is : Reading) (old new : RackState) : Type 0 where
  pub has : HasRun (known_of medium) (s + 1) is
  pub stands :
      (y : List ℕ) (views : List DriveView) → AllTell new → Stands (known_of medium) (manner_of jump tries) y views s old was file
      → Stands (known_of medium) (manner_of jump tries) y views (s + 1) new is file
  pub stays : (y : List ℕ) → GuardsRun (known_of medium) y s was file → GuardsRun (known_of medium) y (s + 1) is file

pub gathered : (medium : Medium) (s jump tries : ℕ) (block : List ℕ) (file : Option (List ℕ)) (was taken is : Reading) (read : Bool) (old new : RackState)
    → s < medium.extent.sectors → TellsTake medium s jump tries block was taken read old new → read ≡ true → HasRun (known_of medium) s was → length taken.fates.items ≡ length was.fates.items
    → length block ≡ 2048 → is.fates.items ≡ taken.fates.items → is.next ≡ taken.next → is.first ≡ taken.first
    → is.bytes.items ≡ taken.bytes.items ++ take (width (known_of medium) s) block → Gathered medium s jump tries file was is old new
gathered medium s jump tries block file was taken is read old new below told yes_read has all whole fates next first bytes =
    let known = known_of medium in
    let sized = sized_by medium.extent _ in
    let has' = has_same known s was taken all told.first_is told.bytes_are has in
    record {
      has = has_more known s taken is block sized below whole (ap length fates) first bytes has';
      stands = λ y views tell st.
          let took = told.taken y views tell st.follows in
          record {
            follows = follows_same known (manner_of jump tries) y views (s + 1) new taken is fates next took.follows;
            runs =
                runs_more known (manner_of jump tries) y views s taken is block file sized below first bytes has' (subst (Gives known (manner_of jump tries) y views s block) yes_read took.gives)
                (runs_same known (manner_of jump tries) y views s was taken file told.first_is told.bytes_are st.runs);
          };
      stays = λ y guards.
          let bad = told.bad y guards.guards.erased in
          guards_same known y (s + 1) taken is file first (subst (AsksBad known y) (sym fates) bad.later)
          (guards_more known y s was taken read file told.first_is bad yes_read guards);
    }

-- there was no memory for them
pub gather_failed : {T : Type 0} (medium : Medium) (s jump tries : ℕ) (block name : List ℕ) (desk : DeskState) (was taken is : Reading) (read : Bool) (result : Result T ReadRefusal) (why : ReadRefusal) (old new : RackState)
    → TellsTake medium s jump tries block was taken read old new → result ≡ Err why → TellsPass medium s jump tries name desk desk was is result old new
gather_failed medium s jump tries block name desk was taken is read result why old new told ends =
    rw ends (record {
      stands = λ y views t tell st.
          record {
            views_are = (told.taken y views tell st.follows).follows.views_are;
            file_is = (place (known_of medium) was.first, st.runs.file_is);
          };
      run = tt;
      stays = λ y t guards. guards.guards.file_is;
    })

-- the run goes on
pub gather_done : (medium : Medium) (s jump tries : ℕ) (name : List ℕ) (desk : DeskState) (was is : Reading) (u : Unit {0}) (old new : RackState)
    → Gathered medium s jump tries (desk.files name) was is old new → TellsPass {T = Unit {0}} {E = ReadRefusal} medium s jump tries name desk desk was is (Ok u) old new
gather_done medium s jump tries name desk was is u old new so = record {
  stands = λ y views t tell st. so.stands y views tell st;
  run = so.has;
  stays = λ y t guards. so.stays y guards;
}

-- it was full, and writing it failed
pub full_failed : {T : Type 0} (medium : Medium) (s jump tries : ℕ) (name : List ℕ) (desk desk' : DeskState) (was run is : Reading) (result : Result T ReadRefusal) (cause why : ReadRefusal) (old new : RackState)
    → s < medium.extent.sectors → Gathered medium s jump tries (desk.files name) was run old new
    → (IsTrue desk.tells → PutsRun desk.files desk'.files name (s + 1) run (Err cause)) → result ≡ Err why → TellsPass medium s jump tries name desk desk' was is result old new
full_failed medium s jump tries name desk desk' was run is result cause why old new below so put ends =
    rw ends (record {
      stands = λ y views t tell st.
          let stood = so.stands y views tell st in
          record {
            views_are = stood.follows.views_are;
            file_is =
                run_failed (known_of medium) (manner_of jump tries) y views (s + 1) run desk.files desk'.files name cause (sized_by medium.extent _) (omega (arith, below)) so.has stood.runs (put t);
          };
      run = tt;
      stays = λ y t guards. spared_run (known_of medium) y (s + 1) run desk.files desk'.files name (Err cause) (sized_by medium.extent _) (omega (arith, below)) so.has (so.stays y guards) (put t);
    })

-- and it was written
pub full_done : (medium : Medium) (s jump tries : ℕ) (name : List ℕ) (desk desk' : DeskState) (was run is : Reading) (u : Unit {0}) (old new : RackState)
    → s < medium.extent.sectors → Gathered medium s jump tries (desk.files name) was run old new
    → (IsTrue desk.tells → PutsRun desk.files desk'.files name (s + 1) run (Ok u)) → is.fates.items ≡ run.fates.items → Begins (s + 1) run is
    → TellsPass {T = Unit {0}} {E = ReadRefusal} medium s jump tries name desk desk' was is (Ok u) old new
full_done medium s jump tries name desk desk' was run is u old new below so put fates begins =
    let known = known_of medium in
    record {
      stands = λ y views t tell st.
          let stood = so.stands y views tell st in
          record {
            follows = follows_same known (manner_of jump tries) y views (s + 1) new run is fates begins.next_is stood.follows;
            runs =
                runs_empty known (manner_of jump tries) y views (s + 1) is (desk'.files name) begins.first_is begins.bytes_are
                (run_written known (manner_of jump tries) y views (s + 1) run desk.files desk'.files name u (sized_by medium.extent _) (omega (arith, below)) so.has stood.runs (put t));
          };
      run = has_empty known (s + 1) is (ap length fates ∙ so.has.all) begins.first_is begins.bytes_are;
      stays = λ y t guards.
          let kept = so.stays y guards in
          guards_empty known y (s + 1) is (desk'.files name) begins.first_is (subst (AsksBad known y) (sym fates) kept.guards.erased)
          (spared_run known y (s + 1) run desk.files desk'.files name (Ok u) (sized_by medium.extent _) (omega (arith, below)) so.has kept (put t));
    }
