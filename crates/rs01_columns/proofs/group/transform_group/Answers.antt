use Rattle.std.proofs.Common.{ℕ, ◌≡◌, ◌<◌, ◌≤◌, ◌+◌, ◌-◌, ◌*◌, ◌∙◌, map, sym, arith, ⊎_elim, inl, inr}
use Rattle.std.proofs.lemmas.Bool.{cases_lt}
use Rattle.rs01_columns.specs.Bank.{lane}
use Rattle.rs01_columns.specs.Fifteen.{fifteen_steps, moved}
use Rattle.rs01_columns.specs.Program.{meaning}
use Rattle.rs01_columns.proofs.group.transform_group.Goals as goal

pub loop-b-preserved : goal.loop-b-preserved
loop-b-preserved c =
    let v = c.loop-b.invariant in
    let n = c.transform_block.ensures in
    let b : ℕ = c.loop-b.b in
    let columns = c.args.group.columns in
    let now = c.loop-b.bank in
    let next = c.transform_block.new.bank in
    record {
      long = c.transform_block.auto.bank ∙ v.long;
      done = λ l h j.
          ⊎_elim
          (λ (u : l < 16 * b). n.rest l (omega arith) (inl u) j ∙ v.done l u j)
          (λ (u : 16 * b ≤ l).
          let m : ℕ = l - 16 * b in
          let same : 16 * b + m ≡ l = omega arith in
          (λ t. lane next (sym same t) j)
          ∙ n.here m (omega arith) j
          ∙ (λ t. meaning (map (moved columns) fifteen_steps) (lane now (same t)) j)
          ∙ (λ t. meaning (map (moved columns) fifteen_steps) (λ k. v.rest l u (omega arith) k t) j))
          (cases_lt l (16 * b));
      rest = λ l low h j. n.rest l h (inr (omega arith)) j ∙ v.rest l (omega arith) h j;
    }

pub returns : goal.returns
returns c = λ l h j. c.loop-b.invariant.done l (omega arith) j
