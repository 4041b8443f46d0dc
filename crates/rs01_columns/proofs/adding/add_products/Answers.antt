use Rattle.std.proofs.Common.{◌≡◌, ℕ, ◌+◌, ◌-◌, ◌*◌, ◌<◌, ◌≤◌, List, get_or, arith, ◌∙◌, ap, bit_xor, ⊎_elim}
use Rattle.std.proofs.lemmas.Bool.{cases_lt}
use Rattle.rs01_gf256.specs.Field.{times}
use Rattle.rs01_columns.proofs.adding.add_products.Goals as goal

-- one more block is done
more : (e : ℕ → ℕ → ℕ) (first now next other : List ℕ) (i : ℕ)
    → ((k : ℕ) → k < i * 16 → get_or now k 0 ≡ e (get_or first k 0) (get_or other k 0))
    → ((k : ℕ) → i * 16 ≤ k → get_or now k 0 ≡ get_or first k 0)
    → ((k : ℕ) → k < 16 → get_or next (i * 16 + k) 0 ≡ e (get_or now (i * 16 + k) 0) (get_or other (i * 16 + k) 0))
    → ((k : ℕ) → k < i * 16 → get_or next k 0 ≡ get_or now k 0)
    → (k : ℕ) → k < (i + 1) * 16 → get_or next k 0 ≡ e (get_or first k 0) (get_or other k 0)
more e first now next other i done left here before k l =
    ⊎_elim
    (λ h. before k h ∙ done k h)
    (λ g.
    let place : i * 16 + (k - i * 16) ≡ k = omega arith in
    (rw place at (here (k - i * 16) (omega arith))) ∙ ap (λ x. e x (get_or other k 0)) (left k g))
    (cases_lt k (i * 16))

pub loop-i-preserved : goal.loop-i-preserved
loop-i-preserved c = record {
  done = more (λ x v. bit_xor x (times c.args.table.factor v)) c.args.column.now c.loop-i.column c.add_block.new.column c.args.other.now c.loop-i.i
      c.loop-i.invariant.done c.loop-i.invariant.left c.add_block.ensures.here c.add_block.ensures.rest.before;
  left = λ k l. c.add_block.ensures.rest.after k (omega arith) ∙ c.loop-i.invariant.left k (omega arith);
}
