use Rattle.std.proofs.Common.{◌∙◌}
use Rattle.rs01_encode.proofs.Registers.{one_row_more}
use Rattle.rs01_encode.proofs.columns.lay_parity.Goals as goal

pub loop-codeword-preserved : goal.loop-codeword-preserved
loop-codeword-preserved c = record {
  long = c.lay_parity_of.auto.parity ∙ c.loop-codeword.invariant.long;
  here = one_row_more c.loop-codeword.parity c.lay_parity_of.new.parity c.args.columns.now c.args.r c.loop-codeword.codeword
      c.lay_parity_of.ensures.here c.lay_parity_of.ensures.before c.loop-codeword.invariant.here;
}
