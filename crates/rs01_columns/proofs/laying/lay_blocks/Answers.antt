use Rattle.std.proofs.Common.{◌-◌, arith}
use Rattle.rs01_columns.proofs.Laid.{laid_all}
use Rattle.rs01_columns.proofs.laying.lay_blocks.Goals as goal

pub returns : goal.returns
returns c = λ l h j.
    laid_all c.loop-place.bank c.args.blocks.now (255 - c.args.r) c.args.first l j (omega arith) h
    (λ b. c.loop-place.invariant.laid l j h (omega arith)) (λ g. c.loop-place.invariant.zeros l j h (omega arith))
