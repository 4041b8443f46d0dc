use Rattle.std.proofs.Common.{arith}
use Rattle.rs01_columns.proofs.SixteenBytes.{SwzOk-nibbles, HasLanes-swz_l, low}
use Rattle.rs01_columns.proofs.sixteen.by_low.Goals as goal

pub swizzle : goal.swizzle
swizzle c = SwzOk-nibbles _ _ (low c.args.v c.requires.v) (λ k l. omega arith)

pub returns : goal.returns
returns c = HasLanes-swz_l _ _ (low c.args.v c.requires.v) (λ k l. omega arith) c.args.table
