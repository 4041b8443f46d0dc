use Rattle.std.proofs.Common.{◌∙◌}
use Rattle.rs01_ecchead.proofs.Zeros.{over_zeros}
use Rattle.rs01_ecchead.proofs.head_write.put.Goals as goal

pub returns : goal.returns
returns c = λ before left e z. c.place.ensures ∙ over_zeros before c.args.bytes.now c.args.into.now c.args.at left e z
