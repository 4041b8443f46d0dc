use Rattle.std.proofs.Common.{ℕ, ◌+◌, ◌-◌, ◌*◌, take, drop, ap, ◌∙◌, arith}
use Rattle.rs01_erase.proofs.RestoringLemmas.{gathered}
use Rattle.rs01_erase.proofs.correct.gather.Goals as goal

pub returns : goal.returns
returns c =
    let r : ℕ = c.args.input.now.parity_count in
    let from : ℕ = c.args.codeword * r in
    gathered c.args.input.now _ c.args.codeword (from + r - from) _ _ _ (omega arith) c.items.ensures (omega arith) c.column_of_blocks_into.ensures
    (c.copy_from_slice.ensures.after ∙ ap (λ bytes. take (from + r - from) (drop from bytes)) c.items-2.ensures)
