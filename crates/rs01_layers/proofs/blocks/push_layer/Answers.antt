use Rattle.std.proofs.Common.{◌≡◌, ◌-◌, List, ℕ, refl, arith}
use Rattle.std.specs.List.{flat_map, range_with_len}
use Rattle.rs01_lists.proofs.Flats.{all_pieces, one_more_piece}
use Rattle.rs01_layers.specs.Layer.{block_at, layer_bytes}
use Rattle.rs01_layers.proofs.blocks.push_layer.Goals as goal

whole : (image : List ℕ) (r l : ℕ) → layer_bytes image r l ≡ flat_map (block_at image r l) (range_with_len 0 (255 - r))
unfolding layer_bytes
whole image r l = refl

pub loop-place-preserved : goal.loop-place-preserved
loop-place-preserved c =
    one_more_piece (block_at c.args.image.now c.args.shape.now.parity c.args.layer) c.args.out.now.items c.loop-place.out.items _ _
    c.loop-place.place c.loop-place.invariant refl c.in_ok-push_place.ensures

pub returns : goal.returns
returns c =
    all_pieces (block_at c.args.image.now c.args.shape.now.parity c.args.layer) c.args.out.now.items c.loop-place.out.items _
    c.loop-place.place (255 - c.args.shape.now.parity) (omega arith) c.loop-place.invariant (whole c.args.image.now c.args.shape.now.parity c.args.layer)
