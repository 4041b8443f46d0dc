use Rattle.std.proofs.Common.{arith}
use Rattle.rs01_columns.specs.Bank.{lane}
use Rattle.rs01_columns.proofs.StepByStep.{none_left}
use Rattle.rs01_columns.proofs.running.run.Goals as goal

pub returns : goal.returns
returns c = λ m h j. none_left c.args.program.now.steps.items c.loop-place.place (lane c.loop-place.bank m) j _ (omega arith) (c.loop-place.invariant.same m h j)
