use Rattle.std.proofs.Common.{arith}
use Rattle.rs01_gf256.proofs.Logarithms.{inverse_by_log}
use Rattle.rs01_gf256.proofs.Gf.inv.Goals as goal

pub returns : goal.returns
returns c = inverse_by_log c.args.self.0 (omega arith) (omega arith)
