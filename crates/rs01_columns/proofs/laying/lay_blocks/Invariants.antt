use Rattle.std.proofs.Common.{◌≡◌, ℕ, ◌+◌, ◌-◌, ◌*◌, ◌<◌, ◌≤◌, get_or}
use Rattle.rs01_columns.specs.Bank.{lane}
use Rattle.rs01_columns.proofs.laying.lay_blocks.Given as goal

abbrev pub invariant-loop-place : goal.invariant-loop-place
invariant-loop-place l = record {
  laid : (m j : ℕ) → m < 1024 → j < l.place → lane l.bank m j ≡ get_or l.blocks (2048 * j + (l.first + m)) 0;
  zeros : (m j : ℕ) → m < 1024 → 255 - l.r ≤ j → lane l.bank m j ≡ 0;
}
