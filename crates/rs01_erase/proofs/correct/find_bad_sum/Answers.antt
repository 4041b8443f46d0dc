use Rattle.std.proofs.Common.{ap, sym, ◌∙◌, arith, Some}
use Rattle.rs01_sums.specs.Crc.{crc}
use Rattle.rs01_erase.proofs.RestoringLemmas.{bad_sum_at, no_bad_sum}
use Rattle.rs01_erase.proofs.correct.find_bad_sum.Goals as goal

pub returns-then-crc32-sums : goal.returns-then-crc32-sums
returns-then-crc32-sums c =
    ap Some c.from.ensures
    ∙ sym (bad_sum_at c.args.restored.now c.args.erased.now c.args.sums.now c.loop-k.k (omega arith)
    (λ same. c.if-crc32-sums.true (c.crc32.ensures ∙ ap crc c.block_of.ensures ∙ same)) c.loop-k.invariant)

pub returns : goal.returns
returns c = sym (no_bad_sum c.args.restored.now c.args.erased.now c.args.sums.now (λ j h. c.loop-k.invariant j (omega arith)))
