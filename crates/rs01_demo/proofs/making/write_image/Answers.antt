use Rattle.std.proofs.Common.{arith}
use Rattle.rs01_demo.proofs.StepLemmas.{start_making}
use Rattle.rs01_demo.proofs.making.write_image.Goals as goal

pub loop-first-init : goal.loop-first-init
loop-first-init g c = record { inside = omega arith; room = c.requires; made = start_making c.args.number c.args.sectors c.args.name.now (g.D.Desk.state c.args.desk.now) }
