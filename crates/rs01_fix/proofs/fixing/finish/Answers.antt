use Rattle.rs01_fix.proofs.Ends.{after_cut, after_cut_failed, after_lack, after_stop}
use Rattle.rs01_fix.proofs.fixing.finish.Goals as goal

pub returns-in_default : goal.returns-in_default
returns-in_default g c = λ ecc old worked.
    after_lack c.args.image.now ecc c.args.cut old _ c.args.found.now c.args.course c.args.worked _ c.in-Ok.is worked

pub returns-in-Ok-cut_surplus : goal.returns-in-Ok-cut_surplus
returns-in-Ok-cut_surplus g c = λ ecc old worked.
    after_cut c.args.image.now ecc c.args.cut old _ _ c.args.found.now c.args.course c.args.worked _ c.in-Ok-report.told c.in-Ok.is worked
    c.in-Ok-cut_surplus.ensures.changes c.in-Ok-cut_surplus.ensures.cut c.in-Ok-report.ensures

pub returns-in-Ok : goal.returns-in-Ok
returns-in-Ok g c = λ ecc old worked.
    after_cut_failed c.args.image.now ecc c.args.cut old _ _ c.args.found.now c.args.course c.args.worked _ c.in-Ok.is worked
    c.in-Err-cut_surplus.ensures.changes c.in-Err-cut_surplus.ensures.cut

pub returns : goal.returns
returns g c = λ ecc old worked.
    after_stop c.args.image.now ecc c.args.cut old _ c.args.found.now c.args.course c.args.worked c.in-Err.why c.in-Err.is worked
