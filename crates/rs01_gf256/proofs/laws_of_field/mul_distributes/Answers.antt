use Rattle.rs01_gf256.proofs.Laws.{times-xor_right}
use Rattle.rs01_gf256.proofs.laws_of_field.mul_distributes.Goals as goal

pub returns : goal.returns
returns c = times-xor_right c.args.x.0 c.args.y.0 c.args.z.0
