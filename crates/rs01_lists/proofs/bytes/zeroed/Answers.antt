use Rattle.std.proofs.Common.{rules}
use Rattle.rs01_lists.specs.Bytes.{zeros}
use Rattle.rs01_lists.proofs.bytes.zeroed.Goals as goal

pub returns-clause-zeros : goal.returns-clause-zeros
unfolding zeros
returns-clause-zeros c = search rules
