use Rattle.std.proofs.Common.{◌/◌, ◌^◌}
use Rattle.rs01_columns.proofs.SixteenBytes.{SwzOk-nibbles, HasLanes-swz_l, HasLanes-splat, small_high}
use Rattle.rs01_columns.proofs.sixteen.by_high.Goals as goal

pub swizzle : goal.swizzle
swizzle c = SwzOk-nibbles _ _ (HasLanes-splat (λ a b. a / 2 ^ b) c.args.v 4 c.requires.v) (small_high c.args.v c.requires.v c.fits-v.1)

pub returns : goal.returns
returns c = HasLanes-swz_l _ _ (HasLanes-splat (λ a b. a / 2 ^ b) c.args.v 4 c.requires.v) (small_high c.args.v c.requires.v c.fits-v.1) c.args.table
