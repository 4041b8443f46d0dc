use Rattle.std.proofs.Common.{◌≡◌, ◌-◌, ◌++◌, length, arith}
use Rattle.rs01_poly.specs.Code.{IsCodeword, encode}
use Rattle.rs01_poly.proofs.Difference.{encoding_is_codeword}
use Rattle.rs01_encode.proofs.encoder.Encoder.encode.Goals as goal

pub returns-clause-codeword : goal.returns-clause-codeword
returns-clause-codeword c =
    let d = c.args.data_.now in
    let count : 255 - length d ≡ length c.args.parity.now = omega (arith, c.requires.whole) in
    let code : IsCodeword (d ++ encode d) (length c.args.parity.now) =
    rw count at (encoding_is_codeword d (λ k. (c.type_inv.data_ k).fits) (omega (arith, c.requires.whole))) in
    rw c.divide.ensures code
