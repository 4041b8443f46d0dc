use Rattle.rs01_layers.specs.Sectors.{block}
use Rattle.rs01_layers.proofs.blocks.block_into.Goals as goal

pub returns : goal.returns
unfolding block
returns c = cc
