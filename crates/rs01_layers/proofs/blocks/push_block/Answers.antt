use Rattle.std.proofs.Common.{rules}
use Rattle.rs01_layers.specs.Sectors.{block}
use Rattle.rs01_layers.proofs.blocks.push_block.Goals as goal

pub returns : goal.returns
unfolding block
returns c = search rules
