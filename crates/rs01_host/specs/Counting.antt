-- How a count of faults goes on.
use Rattle.std.specs.Prelude.{ℕ, ◌+◌, ◌-◌, ◌^◌, ◌≡◌, ◌≤◌, min, Bool, IsTrue, not}
use Rattle.rs01_host.specs.declared.fault_count.FaultCount.{FaultCount}

-- a failed call counts as one fault, up to the last value of a u64, and any other as none
pub record Counts (old new : FaultCount) (failed : Bool) : Type 0 where
  pub later : old.count ≤ new.count
  pub rose : IsTrue failed → new.count ≡ min (old.count + 1) (2 ^ 64 - 1)
  pub kept : IsTrue (not failed) → new.count ≡ old.count
