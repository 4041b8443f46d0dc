use Rattle.std.proofs.Common.{◌≡◌, ℕ, ◌+◌, ◌-◌, ◌*◌, ◌<◌, get_or, length}
use Rattle.rs01_columns.specs.Bank.{lane}
use Rattle.rs01_columns.specs.Fours.{SameBefore}
use Rattle.rs01_columns.proofs.laying.read_parity.Given as goal

abbrev pub invariant-loop-l : goal.invariant-loop-l
invariant-loop-l l = record {
  long : length l.parity ≡ length l.initial.parity;
  here : (m j : ℕ) → m < l.l → j < l.r → lane l.bank m (255 - l.r + j) ≡ get_or l.parity ((l.first + m) * l.r + j) 0;
  before : SameBefore l.initial.parity l.parity (l.first * l.r);
}
