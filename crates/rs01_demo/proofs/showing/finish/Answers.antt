use Rattle.rs01_demo.proofs.Ends.{not_repaired, not_told, shown}
use Rattle.rs01_demo.proofs.showing.finish.Goals as goal

pub returns-in-Ok-tell : goal.returns-in-Ok-tell
returns-in-Ok-tell g c = λ old given.
    shown c.args.plan c.args.image.now c.args.ecc.now old _ _ c.args.image_sum c.args.fixed c.in-Ok.fixed c.in-Ok-tell.shown c.in-Ok.is given
    c.in-Ok-tell.ensures.reads c.in-Ok-tell.ensures.told

pub returns-in-Ok : goal.returns-in-Ok
returns-in-Ok g c = λ old given.
    not_told c.args.plan c.args.image.now c.args.ecc.now old _ _ c.args.image_sum c.args.fixed c.in-Ok.fixed c.in-Err-tell.why _ c.in-Ok.is c.from.ensures given
    c.in-Err-tell.ensures.reads

pub returns : goal.returns
returns g c = λ old given. not_repaired c.args.plan c.args.image.now c.args.ecc.now old _ c.args.image_sum c.args.fixed c.in-Err.why c.in-Err.is given
