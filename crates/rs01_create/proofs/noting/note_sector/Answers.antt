use Rattle.rs01_create.proofs.Surveys.{noted_more}
use Rattle.rs01_create.proofs.noting.note_sector.Goals as goal

pub returns : goal.returns
returns c = λ image of is before.
    noted_more image c.args.extent.now c.args.sector c.min-mark_sector.result c.args.block.now c.args.noted.now _ of is c.min-mark_sector.ensures
    c.in_ok-add_sum.ensures c.fingerprint_after-fingerprint.ensures c.marked_after-noted.ensures before
