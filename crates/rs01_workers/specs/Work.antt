-- What comes of working the inputs that a filler gives.
use Rattle.std.specs.Prelude.{ℕ, ◌≡◌, ◌<◌, ◌≤◌, ◌⊎◌, Bool, IsTrue, List, ◌++◌, All, length, map, not}
use Rattle.rs01_layers.specs.declared.input.LayerInput.{LayerInput}
use Rattle.rs01_layers.specs.declared.task.LayerOut.{LayerOut}
use Rattle.rs01_workers.specs.declared.results.WindowStop.{WindowStop}
use Rattle.rs01_workers.specs.declared.results.WindowStop.TheVariants.{OutOfMemory, Stopped}

-- the inputs of one window in the order in which they were given, what the task gave of each, and whether no more come
pub record Worked : Type 0 where
  pub inputs : List LayerInput
  pub outs : List LayerOut
  pub over : Bool

-- as many answers as inputs, and at most 64
pub record IsWindow (worked : Worked) : Type 0 where
  pub paired : length worked.outs ≡ length worked.inputs
  pub few : length worked.inputs ≤ 64

-- the layers of inputs
abbrev pub layers_in : List LayerInput → List ℕ
layers_in inputs = map (λ input. input.layer) inputs

-- a filler was asked until it had no input left or gave so many, and each input was worked: those that it gave since
-- before, in their order, each of which it did give, and each with the task's value; where no more come it is done, and
-- else it may go on
pub record WorksTo {F : Type 0} (most : ℕ) (gave : F → List ℕ) (fits : F → LayerInput → Type 0) (going done : F → Type 0) (value : LayerInput → LayerOut) (old new : F) (worked : Worked) : Type 0 where
  pub grew : gave new ≡ gave old ++ layers_in worked.inputs
  pub fit : All (fits new) worked.inputs
  pub values : worked.outs ≡ map value worked.inputs
  pub last : IsTrue worked.over → done new
  pub full : IsTrue (not worked.over) → (length worked.inputs ≡ most) × going new

-- the same of a window of 64
abbrev pub Works : {F : Type 0} → (gave : F → List ℕ) → (fits : F → LayerInput → Type 0) → (going done : F → Type 0) → (value : LayerInput → LayerOut) → (old new : F) → Worked → Type 0
Works gave fits going done value old new worked = WorksTo 64 gave fits going done value old new worked

-- all that a filler gave since it gave nothing: these inputs, in their order, each of which it did give and each with the
-- task's value; where no more come it is done, and else there are some and it may go on
pub record Gathers {F : Type 0} (gave : F → List ℕ) (fits : F → LayerInput → Type 0) (going done : F → Type 0) (value : LayerInput → LayerOut) (filler : F) (worked : Worked) : Type 0 where
  pub all : gave filler ≡ layers_in worked.inputs
  pub fit : All (fits filler) worked.inputs
  pub values : worked.outs ≡ map value worked.inputs
  pub last : IsTrue worked.over → done filler
  pub full : IsTrue (not worked.over) → (0 < length worked.inputs) × going filler

-- how a filler stands whose inputs were given up: as its stop says, and where memory ran out it may be asked or is done
abbrev pub Stands : {F S : Type 0} → (going done : F → Type 0) → (halted : F → S → Type 0) → F → WindowStop S → Type 0
Stands going done halted filler (Stopped stop) = halted filler stop
Stands going done halted filler OutOfMemory = going filler ⊎ done filler

-- these inputs, each with the task's value
pub record IsWorkOf (value : LayerInput → LayerOut) (posted inputs : List LayerInput) (outs : List LayerOut) : Type 0 where
  pub same : inputs ≡ posted
  pub values : outs ≡ map value inputs

-- how a filler stopped whose window was given up, or what is said where memory ran out
abbrev pub stop_or : {S : Type 0} → WindowStop S → S → S
stop_or (Stopped stop) out_of_memory = stop
stop_or OutOfMemory out_of_memory = out_of_memory
