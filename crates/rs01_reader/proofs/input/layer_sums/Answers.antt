use Rattle.rs01_ecchead.specs.Head.{fields_of}
use Rattle.rs01_repair.specs.Inputs.{sum_at}
use Rattle.rs01_repair.proofs.Numbered.{one_more}
use Rattle.rs01_reader.proofs.input.layer_sums.Goals as goal

pub loop-place-preserved : goal.loop-place-preserved
loop-place-preserved c =
    one_more (sum_at (fields_of c.args.ecc.now.head) c.args.ecc.now.sums.list c.args.layer) c.loop-place.sums.items _ c.place_sum.result c.loop-place.place
    c.loop-place.invariant c.place_sum.ensures c.in_ok-push.ensures.items
