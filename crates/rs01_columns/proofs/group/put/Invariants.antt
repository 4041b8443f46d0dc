use Rattle.std.proofs.Common.{◌≡◌, length}
use Rattle.rs01_columns.specs.Fifteen.{HasPut, OnlyInThese}
use Rattle.rs01_columns.proofs.group.put.Given as goal

abbrev pub invariant-loop-i : goal.invariant-loop-i
invariant-loop-i l = record {
  long : length l.bank ≡ length l.initial.bank;
  here : HasPut l.bank l.room l.columns l.on l.i;
  rest : OnlyInThese l.initial.bank l.bank l.columns l.on l.i;
}
