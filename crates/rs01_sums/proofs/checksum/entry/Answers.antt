use Rattle.rs01_sums.proofs.TableLemmas.{table_at}
use Rattle.rs01_sums.proofs.checksum.entry.Goals as goal

pub returns : goal.returns
returns c = table_at c.args.row c.args.byte c.requires.row c.requires.byte
