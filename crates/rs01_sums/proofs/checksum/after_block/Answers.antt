use Rattle.std.proofs.Common.{ap, ◌∙◌, arith}
use Rattle.rs01_sums.specs.Crc.{after_zeros}
use Rattle.rs01_sums.proofs.ChecksumSteps.{joined}
use Rattle.rs01_sums.proofs.checksum.after_block.Goals as goal

pub returns : goal.returns
returns c =
    joined c.args.block.now c.split_at.result.0.now c.split_at.result.1.now 1024 8192 c.args.start c.after_half.result c.after_both-one.result.1
    c.split_at.ensures.front c.split_at.ensures.back (omega (arith, c.split_at.ensures.back_len)) (λ k. omega (arith, c.type_inv.block k))
    (c.after_half.ensures ∙ ap (after_zeros 8192) c.after_both-one.ensures.one) c.after_both-one.ensures.other
