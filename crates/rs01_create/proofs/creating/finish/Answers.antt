use Rattle.rs01_create.proofs.Ends.{after_end, after_end_failed, after_stop}
use Rattle.rs01_create.proofs.creating.finish.Goals as goal

pub returns-in-Ok-end_file : goal.returns-in-Ok-end_file
returns-in-Ok-end_file g c = λ image parity old worked.
    after_end image c.args.ecc.now parity old _ _ c.args.found.now c.args.course c.args.added _ c.in-Ok-end_file.report c.in-Ok.is worked
    c.in-Ok-end_file.ensures.changes c.in-Ok-end_file.ensures.ends

pub returns-in-Ok : goal.returns-in-Ok
returns-in-Ok g c = λ image parity old worked.
    after_end_failed image c.args.ecc.now parity old _ _ c.args.found.now c.args.course c.args.added _ _ c.in-Ok.is worked
    c.in-Err-end_file.ensures.changes c.in-Err-end_file.ensures.ends

pub returns : goal.returns
returns g c = λ image parity old worked.
    after_stop image c.args.ecc.now parity old _ c.args.found.now c.args.course c.args.added c.in-Err.why c.in-Err.is worked
