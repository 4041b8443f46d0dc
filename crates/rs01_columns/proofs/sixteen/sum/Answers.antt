use Rattle.std.proofs.Common.{bit_xor}
use Rattle.rs01_columns.proofs.SixteenBytes.{HasLanes-zip2}
use Rattle.rs01_columns.proofs.sixteen.sum.Goals as goal

pub returns : goal.returns
returns c = HasLanes-zip2 bit_xor c.args.a c.args.b c.requires.a c.requires.b
