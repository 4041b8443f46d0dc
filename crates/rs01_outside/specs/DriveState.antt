-- What a drive tells of itself, and what asking it leaves.
use Rattle.std.specs.Prelude.{ℕ, ◌≡◌, ◌≤◌, Bool, IsTrue, List, Result, is_err, not}
use Rattle.rs01_outside.specs.Causes.{Rose}
use Rattle.rs01_outside.specs.DriveView.{Counts, DriveView, Gives, answer_at, ask}

pub record DriveState : Type 0 where
  -- whether it tells its view
  pub tells : Bool
  -- what it means, where it tells it
  pub view : DriveView
  -- how often `sectors` and `read` have failed, up to the last value of a u64
  pub faults : ℕ

-- what asking a drive leaves, once this is its view: a drive that tells told before, and where the ask failed the count
-- of faults rose, and else it stays
pub record Answers (old new : DriveState) (view : DriveView) (failed : Bool) : Type 0 where
  pub told_before : IsTrue new.tells → IsTrue old.tells
  pub view_is : IsTrue new.tells → new.view ≡ view
  pub later : old.faults ≤ new.faults
  pub rose : IsTrue failed → Rose old.faults new.faults
  pub kept : IsTrue (not failed) → new.faults ≡ old.faults
