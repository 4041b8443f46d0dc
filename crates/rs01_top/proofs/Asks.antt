-- What holds of a run whose words, or whose command, give no work.
use Rattle.std.proofs.Common.{◌≡◌, ℕ, List, Bool, true, refl, sym, subst}
use Rattle.std.specs.Prelude.{Option, Result, Ok, Err}
use Rattle.std.specs.Option.{option_map}
use Rattle.rs01_outside.specs.DeskState.{DeskState}
use Rattle.rs01_outside.specs.SinkState.{SinkState}
use Rattle.rs01_rack.specs.Rack.{RackState}
use Rattle.rs01_report.specs.Faults.{fault_line, status_of}
use Rattle.rs01_words.specs.Line.{word_at}
use Rattle.rs01_words.specs.declared.command.Command.{Command}
use Rattle.rs01_words.specs.declared.command.Command.TheVariants.{Read}
use Rattle.rs01_words.specs.declared.fault.WordFault.{WordFault}
use Rattle.rs01_words.specs.declared.fault.WordFault.TheVariants.{NoCommand, UnknownCommand, UnknownOption, Repeated, NoValue, BadNumber, OutOfRange, Missing, SameName}
use Rattle.rs01_words.specs.declared.fault.WordRefused.{WordRefused}
use Rattle.rs01_top.specs.Asked.{work_by, work_of}
use Rattle.rs01_top.specs.Faults.{fault_at, word_fault}
use Rattle.rs01_top.specs.Outside.{World, world}
use Rattle.rs01_top.specs.Run.{Ends, IsRun}
use Rattle.rs01_top.specs.Turned.{adaptive_work}
use Rattle.rs01_top.specs.Work.{Work}
use Rattle.rs01_top.proofs.Endings.{not_begun}

word_is : (fault : WordFault) (place : ℕ) → status_of (fault_at fault place) ≡ 2
word_is NoCommand place = refl
word_is UnknownCommand place = refl
word_is UnknownOption place = refl
word_is Repeated place = refl
word_is NoValue place = refl
word_is BadNumber place = refl
word_is OutOfRange place = refl
word_is Missing place = refl
word_is SameName place = refl

-- words that are not in the grammar
pub word_run : (asked : Result Command WordRefused) (refused : WordRefused) (words : List (List ℕ)) (desk : DeskState) (rack : RackState) (out out' : SinkState) (status : ℕ)
    → asked ≡ Err refused
    → Ends (fault_line (word_fault refused)) (status_of (word_fault refused)) out out' status
    → IsRun (work_by words asked) (world desk rack out) (world desk rack out') status
word_run asked refused words desk rack out out' status e ends =
    subst (λ (a : Result Command WordRefused). IsRun (work_by words a) (world desk rack out) (world desk rack out') status) (sym e)
    (not_begun (word_fault refused) desk rack out out' status (word_is refused.fault refused.place) ends)

-- the command that was asked for
pub as_read : (read : Result Command WordRefused) (asked : Command) (words : List (List ℕ)) (old new : World) (status : ℕ)
    → Ok asked ≡ read → IsRun (work_of words asked) old new status → IsRun (work_by words read) old new status
as_read read asked words old new status by run = subst (λ (r : Result Command WordRefused). IsRun (work_by words r) old new status) by run

-- by the arm that it came to
pub as_asked : (asked command : Command) (words : List (List ℕ)) (old new : World) (status : ℕ)
    → asked ≡ command → IsRun (work_of words command) old new status → IsRun (work_of words asked) old new status
as_asked asked command words old new status is run = subst (λ (a : Command). IsRun (work_of words a) old new status) (sym is) run

-- a reading by turns
pub as_adaptive : (image : ℕ) (ecc : Option ℕ) (drives : List ℕ) (adaptive : Bool) (jump tries workers : ℕ) (words : List (List ℕ)) (old new : World) (status : ℕ)
    → adaptive ≡ true → IsRun (adaptive_work (word_at words image) (option_map (word_at words) ecc) tries) old new status
    → IsRun (work_of words (Read image ecc drives adaptive jump tries workers)) old new status
as_adaptive image ecc drives adaptive jump tries workers words old new status is run =
    subst (λ (b : Bool). IsRun (work_of words (Read image ecc drives b jump tries workers)) old new status) (sym is) run

-- work on a name and another one that there may be, which are words
pub by_name : (work : List ℕ → Option (List ℕ) → Work) (a x : List ℕ) (b y : Option (List ℕ)) (old new : World) (status : ℕ) → a ≡ x → b ≡ y
    → IsRun (work a b) old new status → IsRun (work x y) old new status
by_name work a x b y old new status one other run =
    subst (λ (n : Option (List ℕ)). IsRun (work x n) old new status) other (subst (λ (n : List ℕ). IsRun (work n b) old new status) one run)

-- work on two names, which are words
pub by_names : (work : List ℕ → List ℕ → Work) (a b x y : List ℕ) (old new : World) (status : ℕ) → a ≡ x → b ≡ y
    → IsRun (work a b) old new status → IsRun (work x y) old new status
by_names work a b x y old new status one other run =
    subst (λ (n : List ℕ). IsRun (work x n) old new status) other (subst (λ (n : List ℕ). IsRun (work n b) old new status) one run)
