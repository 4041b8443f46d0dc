-- A window keeps its room where only a worker's status and what was given change.
use Rattle.std.proofs.Common.{ℕ, ◌≡◌, arith, length}
use Rattle.rs01_layers.specs.declared.input.LayerInput.{LayerInput}
use Rattle.rs01_layers.specs.declared.task.LayerOut.{LayerOut}
use Rattle.rs01_window.specs.Machine.{Machine}
use Rattle.rs01_window.specs.Soundness.{IsKept, IsSound}

pub kept_on : (value : LayerInput → LayerOut) (old new : Machine) (posted results : ℕ) → IsKept value old posted results
    → new.slots ≡ old.slots → length new.workers ≡ length old.workers → IsSound value new → IsKept value new posted results
kept_on value old new posted results kept slots long sound = record {
  some_slot = omega (arith, kept.some_slot, slots);
  some_worker = omega (arith, kept.some_worker, long);
  few_workers = omega (arith, kept.few_workers, long);
  posted_fit = omega (arith, kept.posted_fit, slots);
  results_fit = omega (arith, kept.results_fit, slots);
  sound = sound;
}
