-- What each step of a reader makes of it.
use Rattle.std.specs.Prelude.{ℕ, ◌≡◌, ◌<◌, ◌≤◌, ◌*◌, ◌⊎◌, ◌++◌, ◌∷◌, [], Bool, false, true, Contains, IfErr, IfNone, IfOk, IfSome, IsTrue, List, take, Option, Some, None, Result, Ok, Err}
use Rattle.std.specs.Option.{option_map}
use Rattle.rs01_layers.specs.Sectors.{length_of}
use Rattle.rs01_layers.specs.declared.extent.Extent.{Extent}
use Rattle.rs01_layers.specs.declared.input.LayerInput.{LayerInput}
use Rattle.rs01_outside.specs.Causes.{Rose}
use Rattle.rs01_outside.specs.DeskState.{DeskState, WorksOn}
use Rattle.rs01_outside.specs.Files.{WritesAt}
use Rattle.rs01_rack.specs.Rack.{RackState}
use Rattle.rs01_states.specs.Sparing.{is_within, layer_count}
use Rattle.rs01_linear.specs.Lasting.{RackLasts}
use Rattle.rs01_linear.specs.declared.asking.Asked.{Asked}
use Rattle.rs01_turns.specs.Leads.{Leads}
use Rattle.rs01_turns.specs.Turns.{NoneUnread}
use Rattle.rs01_reader.specs.Courses.{CourseSeen, IsSpared, course_after, settled_after}
use Rattle.rs01_reader.specs.Inputs.{IsBuiltBy}
use Rattle.rs01_reader.specs.Settled.{Done, Fits, Going, Halted, Settled, moment}
use Rattle.rs01_reader.specs.declared.setup.Setup.{Setup}
use Rattle.rs01_reader.specs.declared.stop.Stop.{Stop}
use Rattle.rs01_reader.specs.declared.stop.Stop.TheVariants.{OutOfMemory, ReadFault, WriteFault}

-- a sector's own bytes of a block are put at its place of the named file, or were to be, where the desk tells
abbrev pub PutsSector : {E : Type 0} → List ℕ → Extent → ℕ → List ℕ → (old new : DeskState) → Result Unit E → Type 0
PutsSector image extent s block old new result =
    IsTrue old.tells → WritesAt old.files new.files image (2048 * s) (take (length_of extent.sectors extent.last_bytes s) block) result

-- whether a step ended since reading a file failed
abbrev pub stops_reading : Stop → Bool
stops_reading ReadFault = true
stops_reading WriteFault = false
stops_reading OutOfMemory = false

abbrev pub is_read_stop : {T : Type 0} → Result T Stop → Bool
is_read_stop (Ok value) = false
is_read_stop (Err stop) = stops_reading stop

-- the same of writing one
abbrev pub stops_writing : Stop → Bool
stops_writing ReadFault = false
stops_writing WriteFault = true
stops_writing OutOfMemory = false

abbrev pub is_write_stop : {T : Type 0} → Result T Stop → Bool
is_write_stop (Ok value) = false
is_write_stop (Err stop) = stops_writing stop

-- a step changed no other file than the image's, and a count of faults rose where the step ended by one of its kind, and
-- else stays; the rack's count of asks rose by as many as the drives' lists of asks show more
pub record Counts {T : Type 0} (setup : Setup) (desk desk' : DeskState) (result : Result T Stop) (rack rack' : RackState) : Type 0 where
  pub works : WorksOn setup.image.now desk desk' (is_read_stop result) (is_write_stop result)
  pub lasts : RackLasts rack rack'

-- a sector was asked for, and a layer may have come within its bound by it
pub record Went (old new : CourseSeen) (s : ℕ) (settled : Option ℕ) : Type 0 where
  pub asked : Asked
  pub course_is : new ≡ course_after old s asked
  pub settled_is : settled ≡ settled_after old.shape s asked old.states new.states

-- only the states, the place and the fates changed
pub record OnlyAsked (old new : CourseSeen) : Type 0 where
  pub shape_same : new.shape ≡ old.shape
  pub given_same : new.given ≡ old.given
  pub first_same : new.first ≡ old.first
  pub reads_same : new.kept_reads ≡ old.kept_reads
  pub writes_same : new.kept_writes ≡ old.kept_writes

-- writing failed
pub record WriteFailed (old new : DeskState) (stop : Stop) : Type 0 where
  pub stop_is : stop ≡ WriteFault
  pub rose : Rose old.write_faults new.write_faults

-- how asking for the next sector ends
pub record AsksNext (setup : Setup) (s : ℕ) (old new : CourseSeen) (desk desk' : DeskState) (result : Result (Option ℕ) Stop) (rack rack' : RackState) : Type 0 where
  pub leads : Leads (moment setup old rack desk) (moment setup new rack' desk')
  pub counts : Counts setup desk desk' result rack rack'
  pub only : OnlyAsked old new
  pub went : IfOk result (Went old new s)
  pub halted : IfErr result (WriteFailed desk desk')

-- each layer that is within its bound was so before, but for such
abbrev pub WithinStay : (old new : CourseSeen) → (ℕ → Type 0) → Type 0
WithinStay old new Other = (l : ℕ) → is_within new.shape l new.states ≡ true → (is_within old.shape l old.states ≡ true) ⊎ Other l

-- a layer is settled that wasn't before, and no other one is
pub record Settles (setup : Setup) (old new : CourseSeen) (desk desk' : DeskState) (rack rack' : RackState) (l : ℕ) : Type 0 where
  pub settled : Settled (moment setup new rack' desk') l
  pub fresh : Settled (moment setup old rack desk) l → ⊥
  pub others : WithinStay old new (λ other. other ≡ l)

-- no layer was settled, and no sector is unread
pub record Ends (old new : CourseSeen) : Type 0 where
  pub none_unread : NoneUnread new.states
  pub others : WithinStay old new (λ other. ⊥)

-- how reading on until a layer is settled ends
pub record ReadsOn (setup : Setup) (old new : CourseSeen) (desk desk' : DeskState) (result : Result (Option ℕ) Stop) (rack rack' : RackState) : Type 0 where
  pub leads : Leads (moment setup old rack desk) (moment setup new rack' desk')
  pub counts : Counts setup desk desk' result rack rack'
  pub only : OnlyAsked old new
  pub spared : IfOk result (λ settled. IsSpared new.shape new.states)
  pub settles : IfOk result (λ settled. IfSome settled (Settles setup old new desk desk' rack rack'))
  pub ends : IfOk result (λ settled. IfNone settled (Ends old new))
  pub halted : IfErr result (WriteFailed desk desk')

-- a layer is settled and wasn't given, and once it is given the reader may go on
pub record Picked (setup : Setup) (old new : CourseSeen) (desk' : DeskState) (rack' : RackState) (l : ℕ) : Type 0 where
  pub settled : Settled (moment setup new rack' desk') l
  pub fresh : Contains new.given l → ⊥
  pub given_same : new.given ≡ old.given
  pub going : Going (moment setup (record new { given = new.given ++ l ∷ [] }) rack' desk')

-- there is no layer to give
pub record GaveNone (setup : Setup) (old new : CourseSeen) (desk' : DeskState) (rack' : RackState) : Type 0 where
  pub given_same : new.given ≡ old.given
  pub done : Done (moment setup new rack' desk')

-- the reader stopped, and gave none
pub record GaveUp (setup : Setup) (old new : CourseSeen) (desk' : DeskState) (rack' : RackState) (stop : Stop) : Type 0 where
  pub given_same : new.given ≡ old.given
  pub halted : Halted (moment setup new rack' desk') stop

-- a layer that is within its bound and wasn't looked at yet
pub record IsWaiting (course : CourseSeen) (l : ℕ) : Type 0 where
  pub from : course.first ≤ l
  pub there : l < layer_count course.shape
  pub within : is_within course.shape l course.states ≡ true

-- it is the layer that is given, or a lower one is
abbrev pub IsNext : ℕ → Option ℕ → Type 0
IsNext l None = ⊥
IsNext l (Some layer) = layer ≤ l

-- where a layer waits, no sector is asked for, and it is given next unless a lower one is
abbrev pub ComesFirst : {T : Type 0} → (T → Option ℕ) → CourseSeen → Result T Stop → (rack rack' : RackState) → Type 0
ComesFirst given_by old result rack rack' = (l : ℕ) → IsWaiting old l → (rack' ≡ rack) × IfOk result (λ given. IsNext l (given_by given))

-- how looking for the next settled layer ends
pub record Picks (setup : Setup) (old new : CourseSeen) (desk desk' : DeskState) (result : Result (Option ℕ) Stop) (rack rack' : RackState) : Type 0 where
  pub leads : Leads (moment setup old rack desk) (moment setup new rack' desk')
  pub counts : Counts setup desk desk' result rack rack'
  pub picked : IfOk result (λ found. IfSome found (Picked setup old new desk' rack'))
  pub none : IfOk result (λ found. IfNone found (GaveNone setup old new desk' rack'))
  pub first : ComesFirst (λ (found : Option ℕ). found) old result rack rack'
  pub halted : IfErr result (GaveUp setup old new desk' rack')

-- a stop that comes from reading files or from want of memory
abbrev pub IsOfReading : Stop → Type 0
IsOfReading ReadFault = Unit {0}
IsOfReading WriteFault = ⊥
IsOfReading OutOfMemory = Unit {0}

-- the layer's input was made and the layer noted, or nothing was noted
abbrev pub GivesLayer : Setup → (old new : CourseSeen) → DeskState → ℕ → Result LayerInput Stop → Type 0
GivesLayer setup old new desk l (Ok input) = (new ≡ record old { given = old.given ++ l ∷ [] }) × IsBuiltBy setup old desk l input
GivesLayer setup old new desk l (Err stop) = (new ≡ old) × IsOfReading stop

-- an input was given, and the reader may go on
pub record Gave (setup : Setup) (old new : CourseSeen) (desk' : DeskState) (rack' : RackState) (input : LayerInput) : Type 0 where
  pub given : new.given ≡ old.given ++ input.layer ∷ []
  pub fits : Fits (moment setup new rack' desk') input
  pub going : Going (moment setup new rack' desk')

abbrev pub Ended : Setup → (old new : CourseSeen) → (desk' : DeskState) → (rack' : RackState) → Result (Option LayerInput) Stop → Type 0
Ended setup old new desk' rack' (Ok (Some input)) = Gave setup old new desk' rack' input
Ended setup old new desk' rack' (Ok None) = GaveNone setup old new desk' rack'
Ended setup old new desk' rack' (Err stop) = GaveUp setup old new desk' rack' stop

-- how asking a reader for the next input ends
pub record Gives (setup : Setup) (old new : CourseSeen) (desk desk' : DeskState) (result : Result (Option LayerInput) Stop) (rack rack' : RackState) : Type 0 where
  pub leads : Leads (moment setup old rack desk) (moment setup new rack' desk')
  pub counts : Counts setup desk desk' result rack rack'
  pub kept : (input : LayerInput) → Fits (moment setup old rack desk) input → Fits (moment setup new rack' desk') input
  pub ended : Ended setup old new desk' rack' result
  pub first : ComesFirst (λ (given : Option LayerInput). option_map (λ (input : LayerInput). input.layer) given) old result rack rack'
