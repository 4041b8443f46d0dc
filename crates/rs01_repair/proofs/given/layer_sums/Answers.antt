use Rattle.rs01_repair.specs.Finding.{fields_in}
use Rattle.rs01_repair.specs.Inputs.{sum_at}
use Rattle.rs01_repair.proofs.Numbered.{one_more}
use Rattle.rs01_repair.proofs.given.layer_sums.Goals as goal

pub loop-place-preserved : goal.loop-place-preserved
loop-place-preserved c =
    let found = c.args.found.now in
    one_more (sum_at (fields_in found) found.ecc.sums.list c.args.layer) c.loop-place.sums.items _ c.place_sum.result c.loop-place.place
    c.loop-place.invariant c.place_sum.ensures c.in_ok-push.ensures.items
