use Rattle.std.proofs.Common.{◌≡◌, ℕ, ◌+◌, ◌-◌, ◌*◌, ◌<◌, ◌≤◌, get_or, length, bit_xor, sym, ap, ◌∙◌, arith, ⊎_elim}
use Rattle.std.proofs.lemmas.Bool.{cases_lt}
use Rattle.std.proofs.lemmas.List.{get_or_past}
use Rattle.rs01_gf256.specs.Field.{times}
use Rattle.rs01_encode.proofs.columns.shift_columns.Goals as goal

pub returns : goal.returns
returns c = λ k m h inside.
    let last : ℕ = length c.args.low.now - 1 in
    let a = c.add_to-2.ensures in
    let z = c.clear.ensures in
    let old = c.args.columns.now in
    ⊎_elim
    (λ (earlier : k < last).
    a.before (2048 * k + m) 0 (omega arith) ∙ z.before (2048 * k + m) 0 (omega arith) ∙ c.loop-k.invariant.done k m (omega arith) inside)
    (λ (g : last ≤ k).
    let same : last ≡ k = omega arith in
    let none : get_or old (2048 * (last + 1) + m) 0 ≡ 0 = get_or_past old (2048 * (last + 1) + m) 0 (omega (arith, c.requires.columns)) in
    let here : get_or c.add_to-2.new.columns (2048 * last + m) 0
    ≡ bit_xor (get_or old (2048 * (last + 1) + m) 0) (times (get_or c.args.low.now last 0) (get_or c.args.feedback.now m 0)) =
    a.here m inside
    ∙ ap (λ x. bit_xor x (times (get_or c.args.low.now last 0) (get_or c.args.feedback.now m 0))) (z.zeros (2048 * last + m) (omega arith) ∙ sym none) in
    rw same at here)
    (cases_lt k last)
