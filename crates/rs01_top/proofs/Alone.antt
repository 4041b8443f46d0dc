-- What holds of a run that is not given the drives, by how its work and its last text ended.
use Rattle.std.proofs.Common.{◌≡◌, ◌⊎◌, ◌∙◌, ℕ, List, refl, subst, sym, false, true}
use Rattle.std.specs.Prelude.{IsTrue, None, Option, Some}
use Rattle.rs01_outside.specs.DeskState.{DeskState, WorksOn}
use Rattle.rs01_outside.specs.SinkState.{SinkState}
use Rattle.rs01_rack.specs.Rack.{RackState}
use Rattle.rs01_report.specs.declared.faults.Fault.{Fault}
use Rattle.rs01_report.specs.declared.faults.Fault.TheVariants as fault
use Rattle.rs01_report.specs.Faults.{fault_line, status_of}
use Rattle.rs01_top.specs.Outside.{told_by, world}
use Rattle.rs01_top.specs.Run.{Ends, RunsAlone}
use Rattle.rs01_top.specs.Work.{Work}
use Rattle.rs01_top.proofs.Endings as run
use Rattle.rs01_top.proofs.Endings.{Leaves, NotOfWords, not_asked, not_false, some_none}

-- what the work may leave, whatever the drives are
pub record MayLeave (work : Work) (old new : DeskState) : Type 0 where
  pub stands : (rack : RackState) → IsTrue old.tells → work.may_stand (told_by old rack) (told_by new rack)
  pub keeps : (rack : RackState) (out out' : SinkState) → IsTrue old.tells → work.keeps (world old rack out) (world new rack out')

leaves : (work : Work) (old new : DeskState) (rack : RackState) (out out' : SinkState) → MayLeave work old new → Leaves work (world old rack out) (world new rack out')
leaves work old new rack out out' left = record { stands = λ d. left.stands rack d.0; keeps = left.keeps rack out out' }

-- whether anything refuses the work, whatever the drives are
abbrev pub RefusedFor : Work → DeskState → Option Fault → Type 0
RefusedFor work old why = (rack : RackState) → IsTrue old.tells → work.refusal (told_by old rack) ≡ why

pub done : (work : Work) (name : List ℕ) (old new : DeskState) (out out' : SinkState) (line : List ℕ) (wanted status : ℕ)
    → NotOfWords work → work.uses_drives ≡ false → (wanted ≡ 0) ⊎ (wanted ≡ 1) → WorksOn name old new false false
    → RefusedFor work old None
    → ((rack : RackState) → IsTrue old.tells → work.done (told_by old rack) (told_by new rack) line wanted)
    → MayLeave work old new
    → Ends line wanted out out' status
    → RunsAlone work old new out out' status
done work name old new out out' line wanted status words alone range works none did left ends =
    λ rack. run.done work name (world old rack out) (world new rack out') line wanted status words range (not_asked work rack) works
    (λ why e t three. some_none why (sym e ∙ none rack t)) (λ d. none rack d.0) (λ d. did rack d.0) (leaves work old new rack out out' left)
    (λ u. absurd (not_false (subst IsTrue alone u))) ends

pub refused : (work : Work) (name : List ℕ) (old new : DeskState) (out out' : SinkState) (why : Fault) (status : ℕ)
    → NotOfWords work → status_of why ≡ 3 → WorksOn name old new false false
    → RefusedFor work old (Some why)
    → (IsTrue old.tells → new.files ≡ old.files)
    → MayLeave work old new
    → Ends (fault_line why) (status_of why) out out' status
    → RunsAlone work old new out out' status
refused work name old new out out' why status words three works first same left ends =
    λ rack. run.refused work name (world old rack out) (world new rack out') why status words three (not_asked work rack) works
    (λ t. first rack t)
    same (λ d. refl)
    (leaves work old new rack out out' left) ends

pub read_failed : (work : Work) (name : List ℕ) (old new : DeskState) (out out' : SinkState) (status : ℕ)
    → NotOfWords work → WorksOn name old new true false
    → MayLeave work old new
    → Ends (fault_line fault.ReadFault) 4 out out' status
    → RunsAlone work old new out out' status
read_failed work name old new out out' status words works left ends =
    λ rack. run.read_failed work name (world old rack out) (world new rack out') status words (not_asked work rack) works
    (leaves work old new rack out out' left) ends

pub write_failed : (work : Work) (name : List ℕ) (old new : DeskState) (out out' : SinkState) (status : ℕ)
    → NotOfWords work → work.only_reads ≡ false → WorksOn name old new false true
    → RefusedFor work old None
    → MayLeave work old new
    → Ends (fault_line fault.WriteFault) 4 out out' status
    → RunsAlone work old new out out' status
write_failed work name old new out out' status words more works none left ends =
    λ rack. run.write_failed work name (world old rack out) (world new rack out') status words more (not_asked work rack) works
    (λ d. none rack d.0) (leaves work old new rack out out' left) ends

pub out_of_memory : (work : Work) (name : List ℕ) (old new : DeskState) (out out' : SinkState) (status : ℕ)
    → NotOfWords work → WorksOn name old new false false
    → MayLeave work old new
    → Ends (fault_line fault.OutOfMemory) 7 out out' status
    → RunsAlone work old new out out' status
out_of_memory work name old new out out' status words works left ends =
    λ rack. run.out_of_memory work name (world old rack out) (world new rack out') status words (not_asked work rack) works
    (leaves work old new rack out out' left) ends
