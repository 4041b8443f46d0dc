use Rattle.std.proofs.Common.{◌≡◌, ℕ, ◌-◌, ◌<◌, ◌≤◌, drop, length}
use Rattle.rs01_columns.specs.Program.{meaning}
use Rattle.rs01_columns.specs.Bank.{lane}
use Rattle.rs01_columns.proofs.running.run.Given as goal

abbrev pub invariant-loop-place : goal.invariant-loop-place
invariant-loop-place l = record {
  most : l.place ≤ length l.program.steps.items;
  same : (m : ℕ) → m < 1024 → (j : ℕ) → meaning (drop l.place l.program.steps.items) (lane l.bank m) j ≡ meaning l.program.steps.items (lane l.initial.bank m) j;
}

abbrev pub decreases-loop-place : goal.decreases-loop-place
decreases-loop-place l = length l.program.steps.items - l.place
