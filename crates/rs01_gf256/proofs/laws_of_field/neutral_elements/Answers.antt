use Rattle.std.proofs.Common.{◌∙◌, arith}
use Rattle.std.specs.Int.Bits.{xor_zero_r, xor_self}
use Rattle.rs01_gf256.proofs.Laws.{times-comm, one-times}
use Rattle.rs01_gf256.proofs.laws_of_field.neutral_elements.Goals as goal

pub returns-clause-sum : goal.returns-clause-sum
returns-clause-sum c = xor_zero_r c.args.x.0

pub returns-clause-product : goal.returns-clause-product
returns-clause-product c = times-comm c.args.x.0 1 (omega arith) (omega arith) ∙ one-times c.args.x.0 (omega arith)

pub returns-clause-negative : goal.returns-clause-negative
returns-clause-negative c = xor_self c.args.x.0
