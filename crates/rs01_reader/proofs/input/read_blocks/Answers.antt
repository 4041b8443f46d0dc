use Rattle.std.proofs.Common.{arith}
use Rattle.rs01_reader.proofs.ReadLemmas.{all_read, more_read, reads_then}
use Rattle.rs01_reader.proofs.input.read_blocks.Goals as goal

pub loop-place-preserved : goal.loop-place-preserved
loop-place-preserved g c =
    let i = c.loop-place.invariant in
    record {
      reads = reads_then _ _ _ _ i.reads c.in_ok-add_place.ensures.reads;
      long = omega (arith, i.long, c.in_ok-add_place.ensures.long);
      told = more_read c.args.ecc.now c.args.course.now c.args.image.now c.args.layer c.loop-place.place _ _ _ _ i.reads i.told c.in_ok-add_place.ensures.told;
    }

pub returns-clause-blocks : goal.returns-clause-blocks
returns-clause-blocks g c = λ t.
    all_read c.args.ecc.now c.args.course.now _ c.args.layer c.loop-place.place _
    (omega (arith, c.loop-place.auto.place-end, c.loop-place-test.false, c.data-places.ensures.value, c.shape.ensures.parity)) (c.loop-place.invariant.told t)
