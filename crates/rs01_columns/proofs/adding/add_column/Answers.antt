use Rattle.std.proofs.Common.{◌≡◌, ◌<◌, get_or, ◌∙◌, sym, ap, bit_xor}
use Rattle.rs01_gf256.specs.Field.{times}
use Rattle.rs01_gf256.proofs.Laws.{one-times}
use Rattle.rs01_columns.proofs.adding.add_column.Goals as goal

pub returns-then-factor-eq1 : goal.returns-then-factor-eq1
returns-then-factor-eq1 c = λ k h.
    let v = get_or c.args.other.now k 0 in
    let small : v < 256 = (c.type_inv.other k).fits in
    let one : c.args.factor ≡ 1 = c.if-factor-eq1.true in
    c.add_plainly.ensures k h ∙ ap (bit_xor (get_or c.args.column.now k 0)) (sym (ap (λ f. times f v) one ∙ one-times v small))
