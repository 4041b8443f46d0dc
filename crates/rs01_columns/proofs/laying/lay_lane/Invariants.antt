use Rattle.std.proofs.Common.{◌≡◌, ℕ, ◌+◌, ◌<◌, get_or, length}
use Rattle.rs01_columns.specs.Bank.{OnlyInLane, lane}
use Rattle.rs01_columns.proofs.laying.lay_lane.Given as goal

abbrev pub invariant-loop-j : goal.invariant-loop-j
invariant-loop-j l = record {
  long : length l.bank ≡ length l.initial.bank;
  here : (j : ℕ) → j < l.j → lane l.bank l.l (l.k + j) ≡ get_or l.bytes j 0;
  rest : OnlyInLane l.initial.bank l.bank l.l l.k (l.k + l.j);
}
