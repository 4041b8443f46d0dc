-- Filling a window while others work on it.
use Rattle.std.specs.Prelude.{ℕ, ◌≡◌, ◌≤◌, List, [], ◌++◌, All, false, length, vec_capacity}
use Rattle.std.specs.Global.{Vec}
use Rattle.rs01_layers.specs.declared.input.LayerInput.{LayerInput}
use Rattle.rs01_table.specs.Seats.{HasNoInput, HaveNone, IsFree, IsPosterOf, IsWorkerOf, id_of, is_closed, posted_by, slots_of, workers_of}
use Rattle.rs01_table.specs.declared.seats.Poster.{Poster}
use Rattle.rs01_table.specs.declared.seats.WindowTable.{WindowTable}
use Rattle.rs01_table.specs.declared.seats.Worker.{Worker}
use Rattle.rs01_workers.specs.Work.{layers_in}
use Rattle.rs01_workers.specs.declared.filled.Filled.{Filled}
use Rattle.rs01_workers.specs.declared.filled.Filled.TheVariants.{Ended, Full, Halted}

-- a window of 64 slots in which nothing is posted
pub record IsEmptyWindow {T : Type 0} (window : WindowTable T) (poster : Poster T) : Type 0 where
  pub mine : IsPosterOf window poster
  pub slots : slots_of window ≡ 64
  pub nothing : posted_by poster ≡ []
  pub is_open : is_closed poster ≡ false

-- the poster is of the same window, with as many workers
pub record KeepsPoster {T : Type 0} (old new : Poster T) : Type 0 where
  pub window : new.seat.table_id ≡ old.seat.table_id
  pub workers : workers_of new ≡ workers_of old

-- a worker of the window that has no ticket and didn't see the end
abbrev pub IsReady : {T : Type 0} → WindowTable T → Worker T → Type 0
IsReady window worker = IsWorkerOf window worker × IsFree worker

-- a worker of the window that has no input
abbrev pub IsThrough : {T : Type 0} → WindowTable T → Worker T → Type 0
IsThrough window worker = IsWorkerOf window worker × HasNoInput worker

-- as many workers as before, in the same room; each is of the window and has no input
pub record AreThrough {T : Type 0} (window : WindowTable T) (old new : Vec (Worker T)) : Type 0 where
  pub count : length new.items ≡ length old.items
  pub room : vec_capacity new ≡ vec_capacity old
  pub none : HaveNone (id_of window) new.items

-- how a filler stands by how the filling ended
abbrev pub FilledAs : {F S : Type 0} → (going done : F → Type 0) → (halted : F → S → Type 0) → F → List LayerInput → Filled S → Type 0
FilledAs going done halted filler posted Ended = done filler
FilledAs going done halted filler posted Full = (length posted ≡ 64) × going filler
FilledAs going done halted filler posted (Halted stop) = halted filler stop

-- a filler was asked, and what it gave was posted
pub record Fills {F S : Type 0} (leads : F → F → Type 0) (gave : F → List ℕ) (fits : F → LayerInput → Type 0) (going done : F → Type 0) (halted : F → S → Type 0) (old new : F) (posted : List LayerInput) (filled : Filled S) : Type 0 where
  pub led : leads old new
  pub grew : gave new ≡ gave old ++ layers_in posted
  pub fit : All (fits new) posted
  pub few : length posted ≤ 64
  pub ends : FilledAs going done halted new posted filled
