-- How a repair begins, and how it ends.
use Rattle.std.proofs.Common.{◌≡◌, ℕ, ◌-◌, List, [], length, sym, ◌∙◌, subst, arith, false, ◌⊎◌, ⊎_elim}
use Rattle.std.specs.List.{range_with_len}
use Rattle.rs01_outside.specs.Causes.{Rose}
use Rattle.rs01_outside.specs.DeskState.{DeskState, WorksOn}
use Rattle.rs01_repair.specs.Finding.{HasEcc, Sources, answer_to, layers_in, said}
use Rattle.rs01_repair.specs.declared.found.Found.{Found}
use Rattle.rs01_fix.specs.Outcome.{reads_badly, writes_badly}
use Rattle.rs01_fix.specs.Steps.{AreKept, HasRoom, IsBefore, IsEitherWay, IsFound, IsRepaired, sources}
use Rattle.rs01_fix.specs.Windows.{Begins, GoesOn, HasStopped, IsDone, IsFinished, IsGoing, IsUpTo, NoFault, given}
use Rattle.rs01_fix.specs.declared.course.Course.{Course}
use Rattle.rs01_fix.specs.declared.refusal.FixRefusal.{FixRefusal}
use Rattle.rs01_fix.specs.declared.refusal.FixRefusal.TheVariants.{OutOfMemory}
use Rattle.rs01_repair.proofs.GivenLemmas.{ready_new}
use Rattle.rs01_fix.proofs.FoundLemmas.{have_blocks, is_image}
use Rattle.rs01_fix.proofs.StandLemmas.{stands_end, stands_on_the_way, stands_start}

-- it begins
pub begins : (found : Found) (image ecc : List ℕ) (state : DeskState) (course : Course) → (image ≡ ecc → ⊥) → Begins found state.read_faults state.write_faults course
    → IsGoing found image ecc state course
begins found image ecc state course differ is = record {
  differ = differ;
  whole = is.whole;
  none = record { reads = sym is.reads_are; writes = sym is.writes_are };
  order = omega (arith, is.start, is.next);
  room = subst (λ (l : ℕ). HasRoom found l course.repairs) (sym is.start) is.nothing.room;
  ready = ready_new found image ecc state course.batch 0 is.next is.first is.parts is.parity (omega arith);
}

pub begins_none : (found : Found) (reads writes : ℕ) (course : Course) → Begins found reads writes course → given course ≡ []
begins_none found reads writes course is = λ i. range_with_len (is.start i) (is.next i - is.start i)

pub begins_up_to : (found : Found) (was : Sources found) (image : List ℕ) (state : DeskState) (course : Course) (reads writes : ℕ) → Begins found reads writes course
    → IsFound found was (state.files image) → IsUpTo found was image state course
begins_up_to found was image state course reads writes is start =
    let there : IsBefore found was 0 0 (state.files image) = stands_start (said found was) was.image (answer_to found was) (state.files image) start in
    record {
      underway = λ cut. stands_on_the_way (said found was) was.image (answer_to found was) 0 0 (state.files image) cut (is_image found was) (have_blocks found was) there;
      stands = λ whole. subst (λ (l : ℕ). IsBefore found was l 0 (state.files image)) (sym is.start) there;
      kept = λ whole. subst (λ (l : ℕ). AreKept found was l course.repairs) (sym is.start)
          (record { erased = λ s below low. absurd (omega arith); restored = is.nothing.none_restored; strange_are = is.nothing.none_strange });
    }

-- it ended
pub works_done : (found : Found) (image ecc : List ℕ) (old new : DeskState) (before after : Course) → Begins found old.read_faults old.write_faults before
    → GoesOn found image ecc old before new after → NoFault new after → WorksOn image old new false false
works_done found image ecc old new before after is goes none = record {
  tells = goes.tells;
  elsewhere = goes.elsewhere;
  reads_later = goes.reads_later;
  writes_later = goes.writes_later;
  read_rose = λ h. cc;
  read_kept = λ h. none.reads ∙ goes.reads_kept ∙ is.reads_are;
  write_rose = λ h. cc;
  write_kept = λ h. none.writes ∙ goes.writes_kept ∙ is.writes_are;
}

pub works_stopped : (found : Found) (image ecc : List ℕ) (old new : DeskState) (before after : Course) (why : FixRefusal) → Begins found old.read_faults old.write_faults before
    → GoesOn found image ecc old before new after → HasStopped new after why → WorksOn image old new (reads_badly why) (writes_badly why)
works_stopped found image ecc old new before after why is goes stopped = record {
  tells = goes.tells;
  elsewhere = goes.elsewhere;
  reads_later = goes.reads_later;
  writes_later = goes.writes_later;
  read_rose = λ h. subst (λ (n : ℕ). Rose n new.read_faults) (goes.reads_kept ∙ is.reads_are) (stopped.read_rose h);
  read_kept = λ h. stopped.read_kept h ∙ goes.reads_kept ∙ is.reads_are;
  write_rose = λ h. subst (λ (n : ℕ). Rose n new.write_faults) (goes.writes_kept ∙ is.writes_are) (stopped.write_rose h);
  write_kept = λ h. stopped.write_kept h ∙ goes.writes_kept ∙ is.writes_are;
}

-- memory ran out while no call had failed
pub lacks : (found : Found) (image ecc : List ℕ) (state : DeskState) (course : Course) → IsGoing found image ecc state course ⊎ IsDone found image ecc state course → HasStopped state course OutOfMemory
lacks found image ecc state course stands =
    let none : NoFault state course = ⊎_elim (λ (h : IsGoing found image ecc state course). h.none) (λ (h : IsDone found image ecc state course). h.going.none) stands in
    record {
      of_repair = tt;
      read_rose = λ h. cc;
      read_kept = λ h. none.reads;
      write_rose = λ h. cc;
      write_kept = λ h. none.writes;
    }

-- all layers are repaired
pub repaired_all : (found : Found) (image ecc : List ℕ) (e y : List ℕ) (size : length y ≡ found.size) (old new : DeskState) (before after : Course) → Begins found old.read_faults old.write_faults before
    → GoesOn found image ecc old before new after → IsFinished found new after → HasEcc found e old ecc → IsFound found (sources found e y size) (old.files image)
    → IsRepaired found (sources found e y size) false (new.files image) × AreKept found (sources found e y size) (layers_in found) after.repairs
repaired_all found image ecc e y size old new before after is goes finished has start =
    let was = sources found e y size in
    let up = goes.story e y size has (begins_up_to found was image old before old.read_faults old.write_faults is start) in (
      stands_end (said found was) y (answer_to found was) (new.files image) (is_image found was) (have_blocks found was)
          (subst (λ (l : ℕ). IsBefore found was l 0 (new.files image)) finished.all (up.stands finished.whole)),
      subst (λ (l : ℕ). AreKept found was l after.repairs) finished.all (up.kept finished.whole),
    )

-- or it is underway
pub underway : (found : Found) (image ecc : List ℕ) (e y : List ℕ) (size : length y ≡ found.size) (old new : DeskState) (before after : Course) → Begins found old.read_faults old.write_faults before
    → GoesOn found image ecc old before new after → HasEcc found e old ecc → IsFound found (sources found e y size) (old.files image)
    → IsEitherWay found (sources found e y size) (new.files image)
underway found image ecc e y size old new before after is goes has start =
    (goes.story e y size has (begins_up_to found (sources found e y size) image old before old.read_faults old.write_faults is start)).underway
