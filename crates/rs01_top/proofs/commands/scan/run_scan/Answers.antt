use Rattle.std.proofs.Common.{◌∙◌, ap}
use Rattle.rs01_top.specs.Run.{ended}
use Rattle.rs01_top.proofs.Endings.{ends_by}
use Rattle.rs01_top.proofs.Scans.{not_scanned_by, scanned_by}
use Rattle.rs01_top.proofs.commands.scan.run_scan.Goals as goal

pub returns-in-Ok : goal.returns-in-Ok
returns-in-Ok g c = record {
  run = scanned_by c.args.ecc _ _ c.in-Ok.report _ c.in-Ok.ensures.reads c.in-Ok.ensures.asked c.in-Ok.ensures.answers.file c.in-Ok.ensures.answer
      (record { put = c.put_scan.result; puts = c.put_scan.ensures; number = c.ended.ensures ∙ ap (ended c.put_scan.result) c.scanned_status.ensures });
}

pub returns-in-Err : goal.returns-in-Err
returns-in-Err g c = record {
  run = not_scanned_by c.args.ecc _ _ c.in-Err.why _ c.in-Err.ensures.reads c.in-Err.ensures.asked c.in-Err.ensures.causes c.in-Err.ensures.answers c.in-Err.ensures.answer
      (ends_by _ _ _ _ _ c.read_fault.ensures c.fail.ensures);
}
