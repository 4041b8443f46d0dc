use Rattle.std.proofs.Common.{◌≡◌, drop}
use Rattle.rs01_sums.specs.Crc.{after_bytes}
use Rattle.rs01_sums.proofs.checksum.after_each.Given as goal

-- the bytes that are left lead to the same number
abbrev pub invariant-loop-byte : goal.invariant-loop-byte
invariant-loop-byte l = after_bytes l.state (drop l.byte-index l.bytes) ≡ after_bytes l.start l.bytes
