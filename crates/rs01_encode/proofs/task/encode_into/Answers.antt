use Rattle.std.proofs.Common.{◌∙◌, arith}
use Rattle.rs01_encode.proofs.ParityPieces.{is_parity}
use Rattle.rs01_encode.proofs.task.encode_into.Goals as goal

pub returns : goal.returns
returns c =
    is_parity c.args.encoder.now c.encode.new.parity c.args.blocks.now (omega (arith, c.requires.most)) (c.encode.auto.parity ∙ c.requires.parity) c.in_ok-encode.ensures.ok
