use Rattle.rs01_poly.proofs.Difference.{encoding_is_codeword}
use Rattle.rs01_poly.proofs.laws_of_code.encoding_is_codeword.Goals as goal

pub returns : goal.returns
returns c = encoding_is_codeword c.args.data_.now (λ k. (c.type_inv.data_ k).fits)
