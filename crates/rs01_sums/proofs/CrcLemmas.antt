-- Checksums have 32 bits.
use Rattle.std.proofs.Common.{ℕ, ◌^◌, ◌<◌, List, arith}
use Rattle.rs01_sums.specs.Crc.{crc}

pub crc-lt : (bytes : List ℕ) → crc bytes < 2 ^ 32
unfolding crc
crc-lt bytes = omega arith
