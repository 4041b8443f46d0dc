use Rattle.std.proofs.Common.{ℕ, List, ◌*◌, ◌+◌, bit_xor, get_or, arith, sym, ap, ◌∙◌}
use Rattle.rs01_sums.specs.Crc.{after_bytes, after_zeros}
use Rattle.rs01_sums.proofs.ZeroLemmas.{after_zeros-xor, eight_bytes, eight_of, further}
use Rattle.rs01_sums.proofs.checksum.after_eight.Goals as goal

pub returns : goal.returns
returns c =
    let s : ℕ = c.args.state in
    let m : ℕ = 8 * c.args.row in
    let xs : List ℕ = c.args.eight.now in
    let e = eight_of xs c.requires.eight in
    let near : ℕ = c.word-near.result in
    let far : ℕ = c.word-far.result in
    (λ i. bit_xor
    ((c.after_four.ensures ∙ further m 64 (8 * (c.args.row + 4 + 4)) (bit_xor s near) (omega arith)) i)
    ((c.after_four-2.ensures ∙ further m 32 (8 * (c.args.row + 4)) far (omega arith)) i))
    ∙ sym (after_zeros-xor m (after_zeros 64 (bit_xor s near)) (after_zeros 32 far))
    ∙ ap (after_zeros m) ((λ i. bit_xor (after_zeros 64 (bit_xor s (c.word-near.ensures i))) (after_zeros 32 (c.word-far.ensures i)))
    ∙ eight_bytes s (get_or xs 0 0) (get_or xs 1 0) (get_or xs 2 0) (get_or xs 3 0) (get_or xs 4 0) (get_or xs 5 0) (get_or xs 6 0) (get_or xs 7 0)
    (λ k. let same = ap (λ ys. get_or ys k 0) e in omega (arith, same, c.type_inv.eight k))
    ∙ ap (after_bytes s) (sym e))
