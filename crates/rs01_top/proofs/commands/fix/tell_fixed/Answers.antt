use Rattle.std.proofs.Common.{◌∙◌, ap}
use Rattle.rs01_top.specs.Run.{ended}
use Rattle.rs01_top.proofs.Endings.{ends_by}
use Rattle.rs01_top.proofs.Fixes.{told_fixed, told_not_fixed}
use Rattle.rs01_top.proofs.commands.fix.tell_fixed.Goals as goal

pub returns-in-Ok : goal.returns-in-Ok
returns-in-Ok g c = λ ecc cut old new is.
    told_fixed c.args.image.now ecc cut old new _ _ c.args.fixed c.in-Ok.report _ c.in-Ok.is is
    (record { put = c.put_fix.result; puts = c.put_fix.ensures; number = c.ended.ensures ∙ ap (ended c.put_fix.result) c.fixed_status.ensures })

pub returns-in-Err : goal.returns-in-Err
returns-in-Err g c = λ ecc cut old new is.
    told_not_fixed c.args.image.now ecc cut old new _ _ c.args.fixed c.in-Err.why _ c.in-Err.is is (ends_by _ _ _ _ _ c.fix_fault.ensures c.fail.ensures)
