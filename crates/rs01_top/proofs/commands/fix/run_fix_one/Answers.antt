use Rattle.rs01_top.proofs.commands.fix.run_fix_one.Goals as goal

pub returns : goal.returns
returns g c = record { run = c.tell_fixed.ensures c.args.ecc.now c.args.cut _ _ c.fix_one-fixed.ensures }
