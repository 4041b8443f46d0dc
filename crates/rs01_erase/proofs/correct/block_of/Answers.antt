use Rattle.std.proofs.Common.{arith}
use Rattle.rs01_erase.proofs.RestoringLemmas.{block_in-is}
use Rattle.rs01_erase.proofs.correct.block_of.Goals as goal

pub returns : goal.returns
returns c = block_in-is c.args.restored.now c.args.k _ (omega arith)
