use Rattle.std.proofs.Common.{◌≡◌, ◌+◌, ◌-◌, ◌*◌, ◌∙◌, ◌++◌, ap, sym, take, drop, arith}
use Rattle.rs01_create.proofs.Pieces.{in_run_there}
use Rattle.rs01_create.proofs.window.push_from_run.Goals as goal

pub returns-in_ok-extend_from_slice : goal.returns-in_ok-extend_from_slice
returns-in_ok-extend_from_slice c =
    let width : 2048 * c.args.i + 2048 - 2048 * c.args.i ≡ 2048 = omega arith in
    c.in_ok-extend_from_slice.ensures.items
    ∙ ap (λ n. c.args.out.now.items ++ take n (drop (2048 * c.args.i) c.args.run.now)) width
    ∙ ap (λ xs. c.args.out.now.items ++ xs) (sym (in_run_there c.args.run.now c.args.i c.if-i-run.true))
