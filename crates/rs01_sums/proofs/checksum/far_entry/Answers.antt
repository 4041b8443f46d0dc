use Rattle.rs01_sums.proofs.TableLemmas.{far_at}
use Rattle.rs01_sums.proofs.checksum.far_entry.Goals as goal

pub returns : goal.returns
returns c = far_at c.args.row c.args.four c.requires.row c.requires.four
