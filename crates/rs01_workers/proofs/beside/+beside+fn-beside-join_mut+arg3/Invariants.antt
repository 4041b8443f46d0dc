use Rattle.std.proofs.Common.{length}
use Rattle.rs01_workers.proofs.beside.+beside+fn-beside-join_mut+arg3.Given as goal

abbrev pub decreases-beside : goal.decreases-beside
decreases-beside g l = length l.others.now.items

abbrev pub decreases-join_mut+arg3 : goal.decreases-join_mut+arg3
decreases-join_mut+arg3 g l = length l.others.now.items
