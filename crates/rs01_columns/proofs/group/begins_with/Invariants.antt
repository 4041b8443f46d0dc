use Rattle.std.proofs.Common.{map, take}
use Rattle.rs01_columns.specs.Fifteen.{BeginsWith, fifteen_steps, moved}
use Rattle.rs01_columns.proofs.group.begins_with.Given as goal

abbrev pub invariant-loop-i : goal.invariant-loop-i
invariant-loop-i l = BeginsWith l.steps l.at l.i (map (moved l.columns) (take l.i fifteen_steps))
