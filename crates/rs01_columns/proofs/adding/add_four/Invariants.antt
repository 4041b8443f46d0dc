use Rattle.std.proofs.Common.{◌≡◌, ◌*◌, length}
use Rattle.rs01_columns.specs.Fours.{AreRaised}
use Rattle.rs01_columns.specs.Ranges.{OnlyHere}
use Rattle.rs01_columns.proofs.adding.add_four.Given as goal

abbrev pub invariant-loop-i : goal.invariant-loop-i
invariant-loop-i l = record {
  long : length l.bank ≡ length l.initial.bank;
  done : AreRaised l.initial.bank l.bank l.tables l.from l.into (16 * l.i);
  rest : OnlyHere l.initial.bank l.bank l.into (16 * l.i);
}
