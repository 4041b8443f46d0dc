use Rattle.std.proofs.Common.{ap, sym, ◌∙◌, below_more}
use Rattle.rs01_poly.specs.Code.{root}
use Rattle.rs01_poly.specs.Polynomial.{value_at}
use Rattle.rs01_columns.proofs.certificate.vanishes.Goals as goal

pub loop-j-preserved : goal.loop-j-preserved
unfolding root
loop-j-preserved c =
    below_more _ _ c.loop-j.invariant (ap (value_at c.args.word.now) (sym c.pow_root.ensures) ∙ sym c.eval.ensures ∙ c.if-eval-ne0.false)
