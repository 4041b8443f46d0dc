use Rattle.std.proofs.Common.{◌≡◌, ◌+◌, ap, drop, arith}
use Rattle.rs01_columns.specs.Program.{meaning}
use Rattle.rs01_columns.proofs.Grouped.{begins_more}
use Rattle.rs01_columns.proofs.group.begins_with.Goals as goal

pub loop-i-init : goal.loop-i-init
unfolding meaning
loop-i-init c = λ f j. let same : c.args.at + 0 ≡ c.args.at = omega arith in ap (λ n. meaning (drop n c.args.steps.now) f j) same

pub loop-i-preserved : goal.loop-i-preserved
loop-i-preserved c =
    begins_more c.args.steps.now c.args.columns.now c.args.at c.loop-i.i _ _ (omega arith) (omega arith) (c.is_moved.ensures c.if-not-is_moved.false) c.loop-i.invariant
