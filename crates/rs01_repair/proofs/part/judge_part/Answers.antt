use Rattle.std.proofs.Common.{arith, false}
use Rattle.std.proofs.lemmas.List.FromFn.{fill_by_all}
use Rattle.rs01_repair.specs.Finding.{places_in}
use Rattle.rs01_repair.specs.Parts.{flag_in}
use Rattle.rs01_repair.proofs.part.judge_part.Goals as goal

pub returns : goal.returns
returns c =
    let found = c.args.found.now in
    let inv = c.loop-place.invariant in
    record {
      blocks = inv.blocks;
      erased = fill_by_all (flag_in found c.args.layer c.args.part.now.blocks.items) c.loop-place.part.erased.items (places_in found) false inv.len
          (λ q low. inv.done q (omega (arith, low, c.loop-place-test.false, c.data-place-end.ensures.value, c.shape.ensures.parity)));
    }
