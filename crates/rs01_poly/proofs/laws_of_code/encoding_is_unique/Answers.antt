use Rattle.rs01_poly.proofs.Difference.{encoding_is_unique}
use Rattle.rs01_poly.proofs.laws_of_code.encoding_is_unique.Goals as goal

pub returns : goal.returns
returns c = encoding_is_unique c.args.data_.now c.args.parity.now (λ k. (c.type_inv.data_ k).fits) (λ k. (c.type_inv.parity k).fits)
