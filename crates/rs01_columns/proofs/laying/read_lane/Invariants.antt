use Rattle.std.proofs.Common.{◌≡◌, ℕ, ◌+◌, ◌<◌, get_or}
use Rattle.rs01_columns.specs.Bank.{lane}
use Rattle.rs01_columns.proofs.laying.read_lane.Given as goal

abbrev pub invariant-loop-j : goal.invariant-loop-j
invariant-loop-j l = (j : ℕ) → j < l.j → lane l.bank l.l (l.k + j) ≡ get_or l.bytes j 0
