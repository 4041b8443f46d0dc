use Rattle.std.proofs.Common.{◌≡◌, ◌*◌, ◌+◌, ◌-◌, ◌∙◌, take, drop, ap, arith}
use Rattle.rs01_create.proofs.noting.block_among.Goals as goal

pub returns : goal.returns
returns c =
    c.copy_from_slice.ensures.after
    ∙ ap (λ n. take n (drop (2048 * c.args.k) c.args.blocks.now)) (let e : 2048 * c.args.k + 2048 - 2048 * c.args.k ≡ 2048 = omega arith in e)
