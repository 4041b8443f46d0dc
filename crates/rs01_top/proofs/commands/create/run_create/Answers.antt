use Rattle.rs01_top.proofs.commands.create.run_create.Goals as goal

pub returns : goal.returns
returns g c = record { run = c.tell_created.ensures c.args.image.now c.args.parity _ _ c.create-made.ensures }
