use Rattle.std.proofs.Common.{◌≡◌, length}
use Rattle.rs01_columns.specs.Turning.{OnlyInRows, RowsLie}
use Rattle.rs01_columns.proofs.turning.put_rows.Given as goal

abbrev pub invariant-loop-k : goal.invariant-loop-k
invariant-loop-k l = record {
  long : length l.bank ≡ length l.initial.bank;
  here : RowsLie l.bank l.to l.square l.k;
  rest : OnlyInRows l.initial.bank l.bank l.to l.k;
}
