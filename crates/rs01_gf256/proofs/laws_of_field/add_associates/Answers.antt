use Rattle.std.specs.Int.Bits.{xor_assoc}
use Rattle.rs01_gf256.proofs.laws_of_field.add_associates.Goals as goal

pub returns : goal.returns
returns c = xor_assoc c.args.x.0 c.args.y.0 c.args.z.0
