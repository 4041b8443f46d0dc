use Rattle.std.proofs.lemmas.Nat.{xor_comm}
use Rattle.rs01_gf256.proofs.laws_of_field.add_commutes.Goals as goal

pub returns : goal.returns
returns c = xor_comm c.args.x.0 c.args.y.0
