use Rattle.std.proofs.Common.{arith}
use Rattle.rs01_columns.specs.Running.{IsWithin}
use Rattle.rs01_columns.proofs.Within.{all_more, all_done}
use Rattle.rs01_columns.proofs.program.are_within.Goals as goal

pub loop-step-preserved : goal.loop-step-preserved
loop-step-preserved c =
    all_more (IsWithin c.args.columns) c.args.steps.now c.loop-step.step-index _ (omega arith) c.loop-step.invariant (c.is_within.ensures c.if-not-is_within.false)

pub returns : goal.returns
returns c = λ yes. all_done (IsWithin c.args.columns) c.args.steps.now c.loop-step.step-index (omega arith) c.loop-step.invariant
