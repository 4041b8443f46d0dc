use Rattle.std.proofs.Common.{◌≡◌, ℕ, ◌+◌, ◌-◌, ◌*◌, ◌<◌, get_or, length}
use Rattle.rs01_columns.specs.Bank.{OnlyColumns, lane}
use Rattle.rs01_columns.proofs.laying.lay_others.Given as goal

abbrev pub invariant-loop-l : goal.invariant-loop-l
invariant-loop-l l = record {
  long : length l.bank ≡ length l.initial.bank;
  here : (m j : ℕ) → m < l.l → j < l.r - l.c → lane l.bank m (255 - l.r + l.c + j) ≡ get_or l.parity ((l.first + m) * l.r + l.c + j) 0;
  rest : OnlyColumns l.initial.bank l.bank (255 - l.r + l.c) 255;
}
