use Rattle.std.proofs.Common.{bit_xor, ◌∙◌}
use Rattle.rs01_sums.proofs.ZeroLemmas.{by_fours}
use Rattle.rs01_sums.proofs.checksum.after_half.Goals as goal

pub returns : goal.returns
returns c =
    (λ i. bit_xor (c.far_entry-first.ensures i) (bit_xor (c.far_entry-second.ensures i) (bit_xor (c.far_entry-third.ensures i)
    (bit_xor (c.far_entry-fourth.ensures i) (bit_xor (c.far_entry-fifth.ensures i) (bit_xor (c.far_entry-sixth.ensures i)
    (bit_xor (c.far_entry-seventh.ensures i) (c.far_entry-eighth.ensures i))))))))
    ∙ by_fours c.args.state
