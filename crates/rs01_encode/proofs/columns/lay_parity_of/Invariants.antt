use Rattle.std.proofs.Common.{◌≡◌, length}
use Rattle.std.specs.List.{SameBelow}
use Rattle.rs01_encode.specs.Columns.{HoldsRow}
use Rattle.rs01_encode.proofs.columns.lay_parity_of.Given as goal

abbrev pub invariant-loop-j : goal.invariant-loop-j
invariant-loop-j l = record {
  long : length l.parity ≡ length l.initial.parity;
  here : HoldsRow l.parity l.at l.columns l.codeword l.j;
  before : SameBelow l.initial.parity l.parity l.at;
}
