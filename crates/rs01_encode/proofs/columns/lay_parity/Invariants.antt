use Rattle.std.proofs.Common.{◌≡◌, length}
use Rattle.rs01_encode.specs.Columns.{HoldsRows}
use Rattle.rs01_encode.proofs.columns.lay_parity.Given as goal

abbrev pub invariant-loop-codeword : goal.invariant-loop-codeword
invariant-loop-codeword l = record {
  long : length l.parity ≡ length l.initial.parity;
  here : HoldsRows l.parity l.columns l.r l.codeword;
}
