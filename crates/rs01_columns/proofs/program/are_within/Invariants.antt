use Rattle.std.proofs.Common.{All, take}
use Rattle.rs01_columns.specs.Running.{IsWithin}
use Rattle.rs01_columns.proofs.program.are_within.Given as goal

abbrev pub invariant-loop-step : goal.invariant-loop-step
invariant-loop-step l = All (IsWithin l.columns) (take l.step-index l.steps)
