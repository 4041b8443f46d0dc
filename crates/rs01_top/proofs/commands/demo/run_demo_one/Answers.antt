use Rattle.rs01_demo.specs.Plan.{plan_of}
use Rattle.rs01_top.proofs.commands.demo.run_demo_one.Goals as goal

pub returns : goal.returns
returns g c = record { run = c.tell_shown.ensures (plan_of c.args.number c.args.sectors c.args.parity c.args.lost) _ _ c.demo_one-shown.ensures }
