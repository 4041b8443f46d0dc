use Rattle.rs01_demo.proofs.Ends.{not_made, not_readied, protected_by, repaired_by}
use Rattle.rs01_demo.proofs.showing.demonstrate_one.Goals as goal

pub returns-in-Ok-mark : goal.returns-in-Ok-mark
returns-in-Ok-mark g c =
    c.finish.ensures _ (repaired_by c.args.plan _ _ _ _ _ _ _ c.requires.differ c.requires.range
    (c.in-Ok-mark.ensures _ _ (protected_by c.args.plan _ _ _ _ _ _ c.requires.differ c.requires.range c.in-Ok.ensures.works c.in-Ok.ensures.made c.create_one-made.ensures))
    c.fix_one-fixed.ensures)

pub returns-in-Err-mark : goal.returns-in-Err-mark
returns-in-Err-mark g c =
    not_readied c.args.plan _ _ _ _ _
    (c.in-Err-mark.ensures _ _ (protected_by c.args.plan _ _ _ _ _ _ c.requires.differ c.requires.range c.in-Ok.ensures.works c.in-Ok.ensures.made c.create_one-made.ensures))

pub returns-in-Err : goal.returns-in-Err
returns-in-Err g c =
    not_made c.args.plan c.args.image.now c.args.ecc.now _ _ c.in-Err.why c.requires.differ c.in-Err.ensures.works c.in-Err.ensures.fault c.in-Err.ensures.made
