use Rattle.std.proofs.Common.{◌≡◌, ◌-◌, ◌++◌, length, arith}
use Rattle.rs01_lists.specs.Bytes.{padded, zeros}
use Rattle.rs01_lists.proofs.Padding.{filled}
use Rattle.rs01_lists.proofs.bytes.copy_padded.Goals as goal

pub returns : goal.returns
unfolding padded
returns c =
    let room : length c.split_at_mut-front.result.1.now ≡ length c.args.into.now - length c.args.bytes.now = omega arith in
    let rest : c.fill.new.self ≡ zeros (length c.args.into.now - length c.args.bytes.now) =
    filled c.fill.new.self (length c.split_at_mut-front.result.1.now) (length c.args.into.now - length c.args.bytes.now) room (c.fill.ensures.after (λ y same. same))
    in
    λ i. c.copy_from_slice.ensures.after i ++ rest i
