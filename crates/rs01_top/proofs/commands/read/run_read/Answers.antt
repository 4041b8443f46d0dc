use Rattle.std.proofs.Common.{◌∙◌, ap}
use Rattle.rs01_top.specs.Run.{ended}
use Rattle.rs01_top.proofs.Endings.{ends_by}
use Rattle.rs01_top.proofs.Linears.{not_read_by, read_by}
use Rattle.rs01_top.proofs.commands.read.run_read.Goals as goal

pub returns-in-Ok : goal.returns-in-Ok
returns-in-Ok g c = record {
  run = read_by c.args.image.now c.args.ecc _ _ _ _ c.in-Ok.report _ c.in-Ok.ensures.works c.in-Ok.ensures.stays c.in-Ok.ensures.answers c.in-Ok.ensures.lasts
      c.in-Ok.ensures.refused c.in-Ok.ensures.told
      (record { put = c.put_read.result; puts = c.put_read.ensures; number = c.ended.ensures ∙ ap (ended c.put_read.result) c.read_status.ensures });
}

pub returns-in-Err : goal.returns-in-Err
returns-in-Err g c = record {
  run = not_read_by c.args.image.now c.args.ecc _ _ _ _ c.in-Err.why _ c.in-Err.ensures.works c.in-Err.ensures.stays c.in-Err.ensures.untouched c.in-Err.ensures.lasts
      c.in-Err.ensures.refused c.in-Err.ensures.causes c.in-Err.ensures.answers c.in-Err.ensures.told
      (ends_by _ _ _ _ _ c.read_fault.ensures c.fail.ensures);
}
