use Rattle.std.proofs.Common.{◌≡◌, length}
use Rattle.rs01_sums.specs.Crc.{after_bytes}
use Rattle.rs01_sums.proofs.checksum.after_both.Given as goal

-- as many bytes of both are left, and they lead to the same numbers
abbrev pub invariant-loop-rest : goal.invariant-loop-rest
invariant-loop-rest l =
    (length l.other_rest ≡ length l.rest) × (after_bytes l.first l.rest ≡ after_bytes l.start l.one) × (after_bytes l.second l.other_rest ≡ after_bytes 0 l.other)

abbrev pub decreases-loop-rest : goal.decreases-loop-rest
decreases-loop-rest l = length l.rest
