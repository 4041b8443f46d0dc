use Rattle.std.proofs.Common.{◌+◌, ◌*◌}
use Rattle.rs01_repair.proofs.judging.+shares.Given as goal

abbrev pub decreases-judge_by : goal.decreases-judge_by
decreases-judge_by g l = 3 * l.threads

abbrev pub decreases-judge_both : goal.decreases-judge_both
decreases-judge_both g l = 3 * l.others + 2

abbrev pub decreases-judge_both-join_mut+arg3 : goal.decreases-judge_both-join_mut+arg3
decreases-judge_both-join_mut+arg3 g l = 3 * l.others + 1
