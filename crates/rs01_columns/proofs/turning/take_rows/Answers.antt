use Rattle.std.proofs.Common.{◌≡◌, ◌<◌, ◌≤◌, ℕ, ◌+◌, ◌*◌, ◌∙◌, arith, ⊎_elim}
use Rattle.std.proofs.lemmas.Bool.{cases_lt}
use Rattle.std.proofs.lemmas.Nat.{mul-le}
use Rattle.rs01_columns.proofs.turning.take_rows.Goals as goal

inside : (i r : ℕ) → i < 16 → i * r ≤ 15 * r
inside i r h = mul-le i r 15 r (omega arith) (omega arith)

pub copy-requires-clause-from : goal.copy-requires-clause-from
copy-requires-clause-from c = omega (arith, c.requires.bytes, inside c.loop-i.i c.args.r (omega arith))

pub loop-i-preserved : goal.loop-i-preserved
loop-i-preserved c = record {
  wide = c.copy.auto.into ∙ c.loop-i.invariant.wide;
  rows = λ i k h below.
      ⊎_elim
      (λ early. c.copy.ensures.rest.before (16 * i + k) (omega arith) ∙ c.loop-i.invariant.rows i k early below)
      (λ late. let same : c.loop-i.i ≡ i = omega arith in rw same at (c.copy.ensures.here k below))
      (cases_lt i c.loop-i.i);
}
