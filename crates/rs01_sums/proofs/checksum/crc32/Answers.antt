use Rattle.rs01_sums.proofs.ChecksumSteps.{complement}
use Rattle.rs01_sums.proofs.checksum.crc32.Goals as goal

pub returns-then-bytes-eq2048 : goal.returns-then-bytes-eq2048
returns-then-bytes-eq2048 c = complement c.args.bytes.now c.after_block.result c.after_block.ensures

pub returns : goal.returns
returns c = complement c.args.bytes.now c.after_all.result c.after_all.ensures
