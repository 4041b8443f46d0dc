use Rattle.std.proofs.Common.{◌≡◌, length}
use Rattle.rs01_columns.specs.Turning.{HasRows}
use Rattle.rs01_columns.proofs.turning.take_rows.Given as goal

abbrev pub invariant-loop-i : goal.invariant-loop-i
invariant-loop-i l = record {
  wide : length l.square ≡ 256;
  rows : HasRows l.square l.bytes l.from l.r l.i;
}
