use Rattle.std.proofs.Common.{◌≡◌, length}
use Rattle.rs01_columns.specs.Fifteen.{HasTaken}
use Rattle.rs01_columns.proofs.group.take.Given as goal

abbrev pub invariant-loop-i : goal.invariant-loop-i
invariant-loop-i l = record {
  long : length l.room ≡ 240;
  taken : HasTaken l.room l.bank l.columns l.on l.i;
}
