use Rattle.std.proofs.Common.{◌∙◌, ap}
use Rattle.rs01_top.specs.Run.{ended}
use Rattle.rs01_top.proofs.Demos.{told_not_shown, told_shown}
use Rattle.rs01_top.proofs.Endings.{ends_by}
use Rattle.rs01_top.proofs.commands.demo.tell_shown.Goals as goal

pub returns-in-Ok : goal.returns-in-Ok
returns-in-Ok g c = λ plan old new is.
    told_shown plan old new _ _ c.args.shown c.in-Ok.shown _ c.in-Ok.is is
    (record { put = c.put_demo.result; puts = c.put_demo.ensures; number = c.ended.ensures ∙ ap (ended c.put_demo.result) c.shown_status.ensures })

pub returns-in-Err : goal.returns-in-Err
returns-in-Err g c = λ plan old new is.
    told_not_shown plan old new _ _ c.args.shown c.in-Err.why _ c.in-Err.is is (ends_by _ _ _ _ _ c.demo_fault.ensures c.fail.ensures)
