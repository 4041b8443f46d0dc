use Rattle.std.proofs.Common.{◌≡◌, length}
use Rattle.rs01_sums.specs.Crc.{after_bytes}
use Rattle.rs01_sums.proofs.checksum.after_all.Given as goal

-- the bytes that are left lead to the same number
abbrev pub invariant-loop-rest : goal.invariant-loop-rest
invariant-loop-rest l = after_bytes l.state l.rest ≡ after_bytes l.start l.bytes

abbrev pub decreases-loop-rest : goal.decreases-loop-rest
decreases-loop-rest l = length l.rest
