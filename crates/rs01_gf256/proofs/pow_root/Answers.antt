use Rattle.std.proofs.Common.{◌≡◌, ◌*◌, ◌%◌, get_or, arith, ap, sym, ◌∙◌}
use Rattle.rs01_gf256.specs.declared.tables.TheConstants.{EXP}
use Rattle.rs01_gf256.proofs.Logarithms.{exp_power}
use Rattle.rs01_gf256.proofs.pow_root.Goals as goal

pub returns : goal.returns
returns c =
    let same : c.args.i % 255 * 11 % 255 ≡ 11 * c.args.i % 255 = omega arith in
    ap (λ k. get_or EXP k 0) same ∙ sym (exp_power (11 * c.args.i))
