use Rattle.std.proofs.Common.{arith}
use Rattle.rs01_sums.specs.Crc.{after_zeros}
use Rattle.rs01_sums.proofs.ChecksumSteps.{joined}
use Rattle.rs01_sums.proofs.checksum.after_sixteen.Goals as goal

pub returns : goal.returns
unfolding after_zeros
returns c =
    joined c.args.sixteen.now c.split_at.result.0.now c.split_at.result.1.now 8 64 c.args.state c.after_eight.result c.after_eight-2.result
    c.split_at.ensures.front c.split_at.ensures.back (omega (arith, c.split_at.ensures.back_len)) (λ k. omega (arith, c.type_inv.sixteen k))
    c.after_eight.ensures c.after_eight-2.ensures
