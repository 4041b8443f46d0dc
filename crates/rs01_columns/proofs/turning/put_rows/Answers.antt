use Rattle.std.proofs.Common.{◌≡◌, ◌<◌, ◌≤◌, ◌⊎◌, ℕ, ◌+◌, ◌*◌, ◌∙◌, arith, ⊎_elim}
use Rattle.std.proofs.lemmas.Bool.{cases_lt}
use Rattle.rs01_columns.proofs.turning.put_rows.Goals as goal

pub loop-k-preserved : goal.loop-k-preserved
loop-k-preserved c = record {
  long = c.copy.auto.into ∙ c.loop-k.invariant.long;
  here = λ k i h below.
      ⊎_elim
      (λ early. c.copy.ensures.rest.before (c.args.to + 1088 * k + i) (omega arith) ∙ c.loop-k.invariant.here k i early below)
      (λ late. let same : c.loop-k.k ≡ k = omega arith in rw same at (c.copy.ensures.here i below))
      (cases_lt k c.loop-k.k);
  rest = λ m out.
      ⊎_elim
      (λ low. c.copy.ensures.rest.before m low)
      (λ high. c.copy.ensures.rest.after m high)
      (out c.loop-k.k (omega arith))
      ∙ c.loop-k.invariant.rest m (λ k h. out k (omega arith));
}

pub returns-clause-rest : goal.returns-clause-rest
returns-clause-rest c = λ m out. c.loop-k.invariant.rest m (λ k h. out k (omega arith))
