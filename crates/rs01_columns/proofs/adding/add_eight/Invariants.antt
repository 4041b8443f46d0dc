use Rattle.std.proofs.Common.{◌≡◌, ◌*◌, length}
use Rattle.rs01_columns.specs.Fours.{AreBothRaised, OnlyInBoth}
use Rattle.rs01_columns.proofs.adding.add_eight.Given as goal

abbrev pub invariant-loop-i : goal.invariant-loop-i
invariant-loop-i l = record {
  long : length l.bank ≡ length l.initial.bank;
  here : AreBothRaised l.initial.bank l.bank l.tables l.from l.into (16 * l.i);
  rest : OnlyInBoth l.initial.bank l.bank l.into (16 * l.i);
}
