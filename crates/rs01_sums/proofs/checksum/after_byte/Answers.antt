use Rattle.rs01_sums.proofs.ZeroLemmas.{one_byte}
use Rattle.rs01_sums.proofs.checksum.after_byte.Goals as goal

pub returns : goal.returns
returns c = one_byte c.args.state c.args.byte c.entry.result c.ranges.byte.fits c.entry.ensures
