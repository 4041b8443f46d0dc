use Rattle.rs01_fix.proofs.fixing.fix.Goals as goal

pub returns-in-Ok : goal.returns-in-Ok
returns-in-Ok g c = c.finish.ensures c.args.ecc.now (g.D.Desk.state c.args.desk.now) (record {
  start = g.D.Desk.state c.begin.new.desk;
  begun = c.in-Ok.field-0.course;
  started = c.in-Ok.ensures.started;
  work = c.work_windows-worked.ensures;
})

pub returns-in-Err : goal.returns-in-Err
returns-in-Err g c = c.in-Err.ensures.refused c.args.cut
