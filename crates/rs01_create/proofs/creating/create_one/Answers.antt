use Rattle.rs01_create.proofs.creating.create_one.Goals as goal

pub returns-in-Ok : goal.returns-in-Ok
returns-in-Ok g c = c.finish.ensures c.args.image.now c.args.parity (g.D.Desk.state c.args.desk.now) (record {
  start = g.D.Desk.state c.look_and_begin.new.desk;
  begun = c.in-Ok.field-0.course;
  started = c.in-Ok.ensures.started;
  work = c.add_layers_one-added.ensures;
})

pub returns-in-Err : goal.returns-in-Err
returns-in-Err g c = c.in-Err.ensures.refused
