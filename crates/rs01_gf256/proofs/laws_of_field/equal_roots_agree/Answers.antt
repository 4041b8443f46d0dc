use Rattle.rs01_gf256.proofs.Logarithms.{equal_roots}
use Rattle.rs01_gf256.proofs.laws_of_field.equal_roots_agree.Goals as goal

pub returns : goal.returns
returns c = equal_roots c.args.i c.args.j
