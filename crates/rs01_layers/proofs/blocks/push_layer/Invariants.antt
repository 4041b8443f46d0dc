use Rattle.std.proofs.Common.{◌≡◌, ◌++◌}
use Rattle.std.specs.List.{flat_map, range_with_len}
use Rattle.rs01_layers.specs.Layer.{block_at}
use Rattle.rs01_layers.proofs.blocks.push_layer.Given as goal

-- the places so far have their blocks
abbrev pub invariant-loop-place : goal.invariant-loop-place
invariant-loop-place l =
    l.out.items ≡ l.initial.out.items ++ flat_map (block_at l.image l.shape.parity l.layer) (range_with_len 0 l.place)
