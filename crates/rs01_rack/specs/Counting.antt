-- The number of sectors that the drives of a rack agree on.
use Rattle.std.specs.Prelude.{ℕ, ◌≡◌, ◌<◌, ◌+◌, ◌==◌, List, [], ◌∷◌, IsTrue, not, is_err, Option, Some, None, Result, Ok, Err, find, length, map, slice_get, if◌then◌else◌}
use Rattle.rs01_outside.specs.DriveState.{Answers, DriveState}
use Rattle.rs01_outside.specs.DriveView.{Counts, DriveView}
use Rattle.rs01_outside.specs.declared.Failed.{Failed}
use Rattle.rs01_rack.specs.Rack.{AtDrive, FaultsKept, FaultsRose, RackState, SameFrom}
use Rattle.rs01_rack.specs.declared.refusal.RackRefusal.{RackRefusal}
use Rattle.rs01_rack.specs.declared.refusal.RackRefusal.TheVariants as refusal

-- a drive was asked for its number of sectors, and gave one or failed
pub record IsCounted (number : Result ℕ Failed) (before after : DriveState) : Type 0 where
  pub state : Answers before after before.view (is_err number)
  pub told : IsTrue after.tells → Counts before.view number

-- the first drives, as many as there are numbers, were asked and gave these
abbrev pub AllCounted : List ℕ → List DriveState → List DriveState → Type 0
AllCounted numbers old new = (k number : ℕ) → slice_get numbers k ≡ Some number → AtDrive old new k (IsCounted (Ok number))

-- the first number that isn't this one
abbrev pub other_number : ℕ → List ℕ → Option ℕ
other_number number numbers = find (λ n. not (n == number)) numbers

-- the number that all have, where no other one was seen
abbrev pub agreed_on : ℕ → Option ℕ → Result ℕ RackRefusal
agreed_on number None = Ok number
agreed_on number (Some other) = Err (refusal.Differ number other)

-- the number that all drives have, by the numbers of all
abbrev pub agreed : List ℕ → Result ℕ RackRefusal
agreed [] = Err refusal.NoDrive
agreed (number ∷ others) = agreed_on number (other_number number others)

-- the place of the first drive whose size call fails, where they are counted from this one on
abbrev pub first_unsized : ℕ → List DriveView → Option ℕ
first_unsized place [] = None
first_unsized place (view ∷ views) = if view.unsized then Some place else first_unsized (place + 1) views

-- the number that drives have, where the size call of none fails
abbrev pub number_unless : Option ℕ → List DriveView → Result ℕ RackRefusal
number_unless None views = agreed (map (λ view. view.number) views)
number_unless (Some place) views = Err (refusal.Failed place)

-- the number that drives of these views have
abbrev pub number_of : List DriveView → Result ℕ RackRefusal
number_of views = number_unless (first_unsized 0 views) views

-- the drive at a place failed, after those before it gave these numbers, and none behind it was asked
pub record FailedAt (place : ℕ) (numbers : List ℕ) (old new : List DriveState) : Type 0 where
  pub before : length numbers ≡ place
  pub inside : place < length old
  pub failed : AtDrive old new place (IsCounted (Err _))
  pub behind : SameFrom (place + 1) new old

-- how asking for the number ends, once drives gave these
abbrev pub EndsAs : Result ℕ RackRefusal → List ℕ → List DriveState → List DriveState → Type 0
EndsAs (Err (refusal.Failed place)) numbers old new = FailedAt place numbers old new
EndsAs answer numbers old new = (length numbers ≡ length old) × (answer ≡ agreed numbers)

-- the drives were asked for their number in order, each once, up to the first that failed
pub record GivesNumber (answer : Result ℕ RackRefusal) (old new : RackState) : Type 0 where
  pub numbers : List ℕ
  pub counted : AllCounted numbers old.drives new.drives
  pub ends : EndsAs answer numbers old.drives new.drives
  pub number : length new.drives ≡ length old.drives
  pub asks : new.asks ≡ old.asks

-- a drive that is said to have failed raised its count, and with every other answer no drive did
abbrev pub HasCause : Result ℕ RackRefusal → RackState → RackState → Type 0
HasCause (Err (refusal.Failed place)) old new = AtDrive old.drives new.drives place FaultsRose
HasCause answer old new = (k : ℕ) → AtDrive old.drives new.drives k FaultsKept
