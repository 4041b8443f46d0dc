use Rattle.std.proofs.Common.{◌≡◌, ◌-◌, ◌++◌, length, take, arith}
use Rattle.std.proofs.lemmas.List.{length-take-le}
use Rattle.rs01_lists.specs.Bytes.{padded, zeros}
use Rattle.rs01_lists.proofs.Padding.{filled}
use Rattle.rs01_linear.proofs.asking.keep_own.Goals as goal

pub returns : goal.returns
unfolding padded
returns c =
    let own = take c.args.len c.args.block.now in
    let long : length own ≡ c.args.len = length-take-le c.args.len c.args.block.now (omega (arith, c.requires, c.told-block)) in
    let room : length c.split_at_mut-own.result.1.now ≡ 2048 - length own = omega (arith, c.split_at_mut-own.ensures.back_len, long, c.told-block) in
    let rest : c.fill.new.self ≡ zeros (2048 - length own) =
    filled c.fill.new.self (length c.split_at_mut-own.result.1.now) (2048 - length own) room (c.fill.ensures.after (λ y same. same))
    in
    λ i. c.split_at_mut-own.ensures.front i ++ rest i
