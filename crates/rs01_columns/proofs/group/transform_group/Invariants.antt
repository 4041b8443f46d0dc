use Rattle.std.proofs.Common.{◌≡◌, ℕ, ◌<◌, ◌≤◌, ◌*◌, length, map}
use Rattle.rs01_columns.specs.Bank.{lane}
use Rattle.rs01_columns.specs.Fifteen.{fifteen_steps, moved}
use Rattle.rs01_columns.specs.Program.{meaning}
use Rattle.rs01_columns.proofs.group.transform_group.Given as goal

abbrev pub invariant-loop-b : goal.invariant-loop-b
invariant-loop-b l = record {
  long : length l.bank ≡ length l.initial.bank;
  done : (m : ℕ) → m < 16 * l.b → (j : ℕ) → lane l.bank m j ≡ meaning (map (moved l.group.columns) fifteen_steps) (lane l.initial.bank m) j;
  rest : (m : ℕ) → 16 * l.b ≤ m → m < 1024 → (j : ℕ) → lane l.bank m j ≡ lane l.initial.bank m j;
}
