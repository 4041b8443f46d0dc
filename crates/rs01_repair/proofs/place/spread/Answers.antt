use Rattle.std.proofs.Common.{◌+◌, ◌<◌, length, get_or, arith}
use Rattle.rs01_repair.specs.Parts.{HasBlocks, HasBlocksOf, chunk}
use Rattle.rs01_repair.proofs.PartLemmas.{blocks_more, long_part, places_more, run_gives, run_has, set_done, set_left}
use Rattle.rs01_repair.proofs.place.spread.Goals as goal

pub loop-k-preserved : goal.loop-k-preserved
loop-k-preserved c =
    let found = c.args.found.now in
    let p = c.args.place in
    let k = c.loop-k.k in
    let parts = c.loop-k.parts in
    let inv = c.loop-k.invariant in
    let new = c.push_place.new.part in
    let item = c.index-parts-k.result in
    let old = get_or parts k item in
    let count = length c.args.parts.now in
    let bytes = chunk c.args.run.now k in
    let low : k < count = omega arith in
    let here : k < length parts = omega arith in
    let adds = c.in_ok-push_place.ensures in
    record {
      done = set_done (λ j x. HasBlocks found (p + 1) x) parts k new here inv.done
          (places_more found (c.args.first + k) p bytes old new
          (λ below. long_part c.args.run.now k (run_has found c.args.first p count k c.args.run.now c.requires.run low below))
          (inv.left k item (omega arith) low) adds);
      left = set_left (λ j x. HasBlocks found p x) parts k count new inv.left;
      told = λ file is from.
          let was = inv.told file is from in (
            set_done (λ j x. HasBlocksOf found file (c.args.first + j) (p + 1) x) parts k new here was.0
                (blocks_more found file (c.args.first + k) p bytes old new (run_gives found file c.args.first p count k c.args.run.now c.requires.run is low)
                (was.1 k item (omega arith) low) adds),
            set_left (λ j x. HasBlocksOf found file (c.args.first + j) p x) parts k count new was.1,
          );
    }
