-- What a sink tells of itself, and what putting bytes leaves.
use Rattle.std.specs.Prelude.{ℕ, ◌≡◌, ◌≤◌, ◌++◌, take, Bool, true, false, IsTrue, List, not}
use Rattle.rs01_outside.specs.Causes.{Rose}

pub record SinkState : Type 0 where
  -- whether it tells what it took
  pub tells : Bool
  -- all bytes that it took, first to last, where it tells them
  pub taken : List ℕ
  -- how often `put` has failed, up to the last value of a u64
  pub faults : ℕ

-- all of these bytes were taken behind what was, or, where that failed, some first ones
abbrev pub Takes : Bool → List ℕ → List ℕ → List ℕ → Type 0
Takes false old new bytes = new ≡ old ++ bytes
Takes true old new bytes = (kept : ℕ) × (new ≡ old ++ take kept bytes)

-- a call that puts these bytes: where it failed, the count of faults rose, and else it stays
pub record Puts (old new : SinkState) (bytes : List ℕ) (failed : Bool) : Type 0 where
  pub tells : new.tells ≡ old.tells
  pub taken : IsTrue old.tells → Takes failed old.taken new.taken bytes
  pub later : old.faults ≤ new.faults
  pub rose : IsTrue failed → Rose old.faults new.faults
  pub kept : IsTrue (not failed) → new.faults ≡ old.faults
