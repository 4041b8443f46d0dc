use Rattle.std.proofs.Common.{◌≡◌, ◌-◌}
use Rattle.rs01_layers.specs.Blocks.{blocks_of}
use Rattle.rs01_encode.specs.Task.{parity_of}
use Rattle.rs01_encode.proofs.task.encode_blocks.Given as goal

abbrev pub invariant-loop-codeword : goal.invariant-loop-codeword
invariant-loop-codeword l = l.bytes.items ≡ parity_of l.codeword (blocks_of (255 - l.input.parity_count) l.input.data_)
