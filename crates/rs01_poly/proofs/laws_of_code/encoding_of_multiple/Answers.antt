use Rattle.std.proofs.Common.{arith}
use Rattle.rs01_poly.proofs.Linear.{encode-scale}
use Rattle.rs01_poly.proofs.laws_of_code.encoding_of_multiple.Goals as goal

pub returns : goal.returns
returns c = encode-scale c.args.c.0 c.args.data_.now (omega arith) (λ k. (c.type_inv.data_ k).fits)
