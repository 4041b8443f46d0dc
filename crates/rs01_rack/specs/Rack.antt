-- What is known of a rack, and of its drives by their numbers.
use Rattle.std.specs.Prelude.{ℕ, ◌≡◌, ◌+◌, ◌-◌, ◌^◌, ◌≤◌, List, IsTrue, IsNone, not, Option, Some, drop, length, map, min, sum_by, slice_get, take}
use Rattle.rs01_outside.specs.Causes.{Rose}
use Rattle.rs01_outside.specs.DriveState.{DriveState}
use Rattle.rs01_outside.specs.DriveView.{DriveView}

pub record RackState : Type 0 where
  -- what is known of each drive, in order
  pub drives : List DriveState
  -- how many reads were asked of them, up to the last value of a u128
  pub asks : ℕ

-- how often all drives failed
abbrev pub faults_of : RackState → ℕ
faults_of rack = sum_by (λ drive. drive.faults) rack.drives

-- what the drives mean, where they tell it
abbrev pub views_of : RackState → List DriveView
views_of rack = map (λ drive. drive.view) rack.drives

-- all drives tell what they mean
abbrev pub AllTell : RackState → Type 0
AllTell rack = (k : ℕ) (drive : DriveState) → slice_get rack.drives k ≡ Some drive → IsTrue drive.tells

-- a count of asks, which stays at the last value of its u128
abbrev pub capped : ℕ → ℕ
capped n = min n (2 ^ 128 - 1)

-- what holds of a drive before and after a call, by its number among the drives
abbrev pub AtDrive : List DriveState → List DriveState → ℕ → (DriveState → DriveState → Type 0) → Type 0
AtDrive old new k P = (before after : DriveState) → slice_get old k ≡ Some before → slice_get new k ≡ Some after → P before after

-- what holds of a drive, by its number among the drives
abbrev pub OfDrive : List DriveState → ℕ → (DriveState → Type 0) → Type 0
OfDrive drives k P = (drive : DriveState) → slice_get drives k ≡ Some drive → P drive

-- drives before a place that are as others, and drives from a place on
abbrev pub SameBefore : ℕ → List DriveState → List DriveState → Type 0
SameBefore place one other = take place one ≡ take place other

abbrev pub SameFrom : ℕ → List DriveState → List DriveState → Type 0
SameFrom place one other = drop place one ≡ drop place other

-- this became of the drive at a place, and nothing of any other one
pub record ChangesAt (place : ℕ) (P : DriveState → DriveState → Type 0) (old new : List DriveState) : Type 0 where
  pub number : length new ≡ length old
  pub before : SameBefore place new old
  pub here : AtDrive old new place P
  pub behind : SameFrom (place + 1) new old

-- the count of faults rose
abbrev pub FaultsRose : DriveState → DriveState → Type 0
FaultsRose before after = Rose before.faults after.faults

-- the count of faults stayed
abbrev pub FaultsKept : DriveState → DriveState → Type 0
FaultsKept before after = after.faults ≡ before.faults

-- the count of each drive from a place on rose
abbrev pub AllRose : ℕ → RackState → RackState → Type 0
AllRose first old new = (k : ℕ) → first ≤ k → AtDrive old.drives new.drives k FaultsRose

-- what a drive says of the sector that it was asked for at a place in the order of its asks
pub record IsAskedAt (i : ℕ) (sector : Option ℕ) (drive : DriveState) : Type 0 where
  pub told : IsTrue drive.tells → sector ≡ slice_get drive.view.asked i
  pub untold : IsTrue (not drive.tells) → IsNone sector
