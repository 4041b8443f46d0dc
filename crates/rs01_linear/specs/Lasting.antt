-- What becomes of a rack whose drives are asked for anything.
use Rattle.std.specs.Prelude.{ℕ, ◌≡◌, ◌≤◌, ◌+◌, IsTrue, List, length, sum_by}
use Rattle.rs01_outside.specs.DriveState.{DriveState}
use Rattle.rs01_outside.specs.DriveView.{DriveView}
use Rattle.rs01_rack.specs.Asking.{RoseBy}
use Rattle.rs01_rack.specs.Rack.{AllTell, AtDrive, RackState, capped, views_of}

-- a drive that tells told before, and its count of faults never falls
pub record Lasts (before after : DriveState) : Type 0 where
  pub told_before : IsTrue after.tells → IsTrue before.tells
  pub later : before.faults ≤ after.faults

-- how often drives of these views were asked for a sector
abbrev pub asks_in : List DriveView → ℕ
asks_in views = sum_by (λ view. length view.asked) views

-- the rack's count of asks rose by as many as the drives' lists of asks show more
pub record CountsAsks (old new : RackState) : Type 0 where
  pub more : ℕ
  pub shown : asks_in (views_of new) ≡ asks_in (views_of old) + more
  pub counted : new.asks ≡ capped (old.asks + more)

-- the drives are still the same ones, and the rack's count of asks never falls
pub record RackLasts (old new : RackState) : Type 0 where
  pub number : length new.drives ≡ length old.drives
  pub each : (k : ℕ) → AtDrive old.drives new.drives k Lasts
  pub later : capped old.asks ≤ new.asks
  pub asks : AllTell new → CountsAsks old new

-- each drive's count rose by so many
abbrev pub AllRoseBy : ℕ → RackState → RackState → Type 0
AllRoseBy n old new = (k : ℕ) → AtDrive old.drives new.drives k (λ before after. RoseBy n before.faults after.faults)
