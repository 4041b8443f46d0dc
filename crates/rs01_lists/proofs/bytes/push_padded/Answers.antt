use Rattle.std.proofs.Common.{rules, append_assoc}
use Rattle.rs01_lists.specs.Bytes.{padded}
use Rattle.rs01_lists.proofs.bytes.push_padded.Goals as goal

pub returns : goal.returns
unfolding padded
returns c = search (rules, append_assoc)
