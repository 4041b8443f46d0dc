use Rattle.std.proofs.Common.{◌≡◌, ℕ, ◌+◌, ◌-◌, ◌*◌, arith, ap, ◌∙◌, below_more}
use Rattle.rs01_gf256.specs.Field.{power}
use Rattle.rs01_columns.proofs.UnitValues.{unit_value}
use Rattle.rs01_columns.proofs.certificate.holds_values.Goals as goal

pub loop-j-preserved : goal.loop-j-preserved
loop-j-preserved c =
    let here : ℕ = c.args.place in
    let same : 254 - here ≡ 255 - (here + 1) = omega arith in
    below_more _ _ c.loop-j.invariant (c.if-bank-j.false ∙ c.pow_root-value.ensures
    ∙ ap (λ m. power 2 (11 * ((112 + c.loop-j.j) * m))) same ∙ unit_value 255 here c.loop-j.j)
