use Rattle.std.proofs.Common.{◌≡◌, ℕ, ◌+◌, ◌-◌, ◌*◌, ◌<◌, ◌≤◌, get_or, length}
use Rattle.rs01_columns.specs.Bank.{OnlyColumns, lane}
use Rattle.rs01_columns.proofs.laying.lay_sixteens.Given as goal

abbrev pub invariant-loop-s : goal.invariant-loop-s
invariant-loop-s l = record {
  long : length l.bank ≡ length l.initial.bank;
  wide : length l.square ≡ 256;
  wide_too : length l.spare ≡ 256;
  here : (m j : ℕ) → m < 1024 → j < 16 * l.s → lane l.bank m (255 - l.r + j) ≡ get_or l.parity ((l.first + m) * l.r + j) 0;
  rest : OnlyColumns l.initial.bank l.bank (255 - l.r) (255 - l.r + 16 * l.s);
}
