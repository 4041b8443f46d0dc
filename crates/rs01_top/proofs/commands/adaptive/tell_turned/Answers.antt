use Rattle.std.proofs.Common.{◌∙◌, ap}
use Rattle.rs01_top.specs.Run.{ended}
use Rattle.rs01_top.proofs.Endings.{ends_by}
use Rattle.rs01_top.proofs.Turns.{told_not_turned, told_turned}
use Rattle.rs01_top.proofs.commands.adaptive.tell_turned.Goals as goal

pub returns-in-Ok : goal.returns-in-Ok
returns-in-Ok g c = λ ecc tries desk desk' rack rack' is.
    told_turned c.args.image.now ecc tries desk desk' rack rack' _ _ c.args.read c.in-Ok.report _ c.in-Ok.is is
    (record { put = c.put_read.result; puts = c.put_read.ensures; number = c.ended.ensures ∙ ap (ended c.put_read.result) c.read_status.ensures })

pub returns-in-Err : goal.returns-in-Err
returns-in-Err g c = λ ecc tries desk desk' rack rack' is.
    told_not_turned c.args.image.now ecc tries desk desk' rack rack' _ _ c.args.read c.in-Err.why _ c.in-Err.is is (ends_by _ _ _ _ _ c.read_fault.ensures c.fail.ensures)
