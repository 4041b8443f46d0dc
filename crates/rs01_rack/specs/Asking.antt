-- Asking the drives of a rack for a sector.
use Rattle.std.specs.Prelude.{ℕ, zero, suc, ◌≡◌, ◌<◌, ◌≤◌, ◌+◌, ◌-◌, ◌*◌, ◌^◌, List, IsTrue, Some, None, Result, Ok, Err, is_err, is_some, length, min, if◌then◌else◌}
use Rattle.rs01_outside.specs.DriveState.{Answers, DriveState}
use Rattle.rs01_outside.specs.DriveView.{DriveView, Answer, Gives, answer_at, ask}
use Rattle.rs01_rack.specs.Rack.{AtDrive, RackState, SameBefore, SameFrom, capped}

-- what became of a drive that was tried: its view, the block that it gave if it gave one, and how often it was asked
pub record Tried : Type 0 where
  pub view : DriveView
  pub block : Answer
  pub count : ℕ

-- one ask more at the front
abbrev pub once_more : Tried → Tried
once_more tried = record tried { count = tried.count + 1 }

-- a drive that is asked for a sector until it gives a block, so many times at most
unfoldable pub try_drive : DriveView → ℕ → ℕ → Tried
try_drive view sector zero = record { view = view; block = None; count = 0 }
try_drive view sector (suc tries) =
    if is_some (answer_at view sector) then record { view = ask view sector; block = answer_at view sector; count = 1 }
    else once_more (try_drive (ask view sector) sector tries)

-- one read of one drive
pub record Reads {E : Type 0} (sector : ℕ) (block : List ℕ) (given : Result Unit E) (before after : DriveState) : Type 0 where
  pub state : Answers before after (ask before.view sector) (is_err given)
  pub told : IsTrue after.tells → Gives (answer_at before.view sector) block given

-- how many of a drive's answers were faults, where only the last one can be a block
abbrev pub failures : Answer → ℕ → ℕ
failures None count = count
failures (Some block) count = count - 1

-- a count that rose by at least so many, or stands at the last value of its u64
abbrev pub RoseBy : ℕ → ℕ → ℕ → Type 0
RoseBy n before now = min (before + n) (2 ^ 64 - 1) ≤ now

-- a drive was asked so often, and gave a block at last or none: where it tells, that is what its view says; its count of
-- faults rose by at least its failures, and stays where it had none
pub record IsTried (sector tries : ℕ) (block : Answer) (count : ℕ) (before after : DriveState) : Type 0 where
  pub told_before : IsTrue after.tells → IsTrue before.tells
  pub told : IsTrue after.tells → try_drive before.view sector tries ≡ record { view = after.view; block = block; count = count }
  pub later : before.faults ≤ after.faults
  pub rose : RoseBy (failures block count) before.faults after.faults
  pub kept : failures block count ≡ 0 → after.faults ≡ before.faults
  pub some : 1 ≤ count
  pub most : count ≤ tries

-- what a drive gave within so many tries: at which try its block came, or that no try gave one
abbrev pub HasTried : {E : Type 0} → ℕ → ℕ → List ℕ → Result ℕ E → DriveState → DriveState → Type 0
HasTried sector tries block (Ok count) before after = IsTried sector tries (Some block) count before after
HasTried sector tries block (Err e) before after = IsTried sector tries None tries before after

-- all drives from the first to the end were tried, and none gave a block
abbrev pub AllTried : ℕ → ℕ → ℕ → ℕ → List DriveState → List DriveState → Type 0
AllTried sector tries first end old new = (k : ℕ) → first ≤ k → k < end → AtDrive old new k (IsTried sector tries None tries)

-- the drive at a place gave a block, after those from the first on were tried in vain, and no other one was asked
pub record GaveBlock (sector tries first place : ℕ) (block : List ℕ) (old new : RackState) : Type 0 where
  pub from : first ≤ place
  pub inside : place < length old.drives
  pub number : length new.drives ≡ length old.drives
  pub before : SameBefore first new.drives old.drives
  pub vain : AllTried sector tries first place old.drives new.drives
  pub count : ℕ
  pub here : AtDrive old.drives new.drives place (IsTried sector tries (Some block) count)
  pub behind : SameFrom (place + 1) new.drives old.drives
  pub asks : new.asks ≡ capped (old.asks + tries * (place - first) + count)

-- all drives from the first on were tried in vain, and no other one was asked
pub record GaveNone (sector tries first : ℕ) (old new : RackState) : Type 0 where
  pub number : length new.drives ≡ length old.drives
  pub before : SameBefore first new.drives old.drives
  pub vain : AllTried sector tries first (length old.drives) old.drives new.drives
  pub asks : new.asks ≡ capped (old.asks + tries * (length old.drives - first))

-- what asking from a drive on gives
abbrev pub ReadsFrom : {E : Type 0} → ℕ → ℕ → ℕ → List ℕ → RackState → RackState → Result ℕ E → Type 0
ReadsFrom first sector tries block old new (Ok place) = GaveBlock sector tries first place block old new
ReadsFrom first sector tries block old new (Err e) = GaveNone sector tries first old new
