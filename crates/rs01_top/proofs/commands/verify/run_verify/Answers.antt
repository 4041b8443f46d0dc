use Rattle.std.proofs.Common.{◌∙◌, ap}
use Rattle.rs01_top.specs.Run.{ended}
use Rattle.rs01_top.proofs.Endings.{ends_by}
use Rattle.rs01_top.proofs.Verifies.{checked, not_checked}
use Rattle.rs01_top.proofs.commands.verify.run_verify.Goals as goal

pub returns-in-Ok : goal.returns-in-Ok
returns-in-Ok g c = record {
  run = checked c.args.image.now c.args.ecc.now _ _ _ _ c.in-Ok.report _ c.in-Ok.ensures.reads c.in-Ok.ensures.answer
      (record { put = c.put_verify.result; puts = c.put_verify.ensures; number = c.ended.ensures ∙ ap (ended c.put_verify.result) c.checked_status.ensures });
}

pub returns-in-Err : goal.returns-in-Err
returns-in-Err g c = record {
  run = not_checked c.args.image.now c.args.ecc.now _ _ _ _ c.in-Err.why _ c.in-Err.ensures.reads c.in-Err.ensures.answer
      (ends_by _ _ _ _ _ c.verify_fault.ensures c.fail.ensures);
}
