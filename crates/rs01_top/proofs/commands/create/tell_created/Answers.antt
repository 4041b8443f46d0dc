use Rattle.rs01_top.proofs.Creates.{told_made, told_not_made}
use Rattle.rs01_top.proofs.Endings.{ends_by}
use Rattle.rs01_top.proofs.commands.create.tell_created.Goals as goal

pub returns-in-Ok : goal.returns-in-Ok
returns-in-Ok g c = λ image parity old new is.
    told_made image c.args.ecc.now parity old new _ _ c.args.made c.in-Ok.report _ c.in-Ok.is is
    (record { put = c.put_create.result; puts = c.put_create.ensures; number = c.ended.ensures })

pub returns-in-Err : goal.returns-in-Err
returns-in-Err g c = λ image parity old new is.
    told_not_made image c.args.ecc.now parity old new _ _ c.args.made c.in-Err.why _ c.in-Err.is is (ends_by _ _ _ _ _ c.create_fault.ensures c.fail.ensures)
