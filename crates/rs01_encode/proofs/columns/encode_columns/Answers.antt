use Rattle.std.proofs.Common.{ap, sym, ◌∙◌, arith, get_or}
use Rattle.rs01_encode.proofs.ParityPieces.{is_parity}
use Rattle.rs01_encode.proofs.Registers.{get_or-register}
use Rattle.rs01_encode.proofs.columns.encode_columns.Goals as goal

pub returns : goal.returns
returns c =
    is_parity c.args.r c.lay_parity.new.parity c.args.data_.now (omega (arith, c.requires.most)) (c.lay_parity.auto.parity ∙ c.requires.parity)
    (λ b j h k.
    c.lay_parity.ensures b h j k
    ∙ sym (get_or-register c.divide_columns.new.columns c.args.r b j k)
    ∙ ap (λ w. get_or w j 0) (c.divide_columns.ensures b h))
