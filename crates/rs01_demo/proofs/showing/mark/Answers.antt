use Rattle.rs01_demo.proofs.Ends.{marked, not_marked, not_protected}
use Rattle.rs01_demo.proofs.showing.mark.Goals as goal

pub returns-in-Ok-mark_sectors : goal.returns-in-Ok-mark_sectors
returns-in-Ok-mark_sectors g c = λ ecc old given.
    marked c.args.plan c.args.image.now ecc old _ _ c.args.made c.in-Ok.made _ c.in-Ok.is given c.in-Ok-mark_sectors.ensures.changes c.in-Ok-mark_sectors.ensures.marked

pub returns-in-Err-mark_sectors : goal.returns-in-Err-mark_sectors
returns-in-Err-mark_sectors g c = λ ecc old given.
    not_marked c.args.plan c.args.image.now ecc old _ _ c.args.made c.in-Ok.made _ c.in-Ok.is given c.in-Err-mark_sectors.ensures.changes c.in-Err-mark_sectors.ensures.marked

pub returns-in-Err : goal.returns-in-Err
returns-in-Err g c = λ ecc old given. not_protected c.args.plan c.args.image.now ecc old _ c.args.made c.in-Err.why c.in-Err.is given
