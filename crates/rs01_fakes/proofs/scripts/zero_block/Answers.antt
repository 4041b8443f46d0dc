use Rattle.std.proofs.Common.{refl}
use Rattle.rs01_lists.specs.Bytes.{zeros}
use Rattle.rs01_fakes.proofs.scripts.zero_block.Goals as goal

pub returns : goal.returns
unfolding zeros
returns c = refl
