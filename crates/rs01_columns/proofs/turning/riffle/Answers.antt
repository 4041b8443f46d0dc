use Rattle.std.proofs.Common.{◌*◌, ◌+◌, ◌∙◌, arith, ⊎_elim}
use Rattle.std.proofs.lemmas.Bool.{cases_lt}
use Rattle.rs01_columns.proofs.turning.riffle.Goals as goal

pub loop-i-preserved : goal.loop-i-preserved
loop-i-preserved c =
    let v = c.loop-i.invariant in
    let n = c.riffle_block.ensures in
    record {
      even = λ k g h.
          ⊎_elim (λ early. n.rest.before (2 * k) (omega arith) ∙ v.even k g early) (λ late. n.here.even k late (omega arith)) (cases_lt k (16 * c.loop-i.i));
      odd = λ k g h.
          ⊎_elim (λ early. n.rest.before (2 * k + 1) (omega arith) ∙ v.odd k g early) (λ late. n.here.odd k late (omega arith)) (cases_lt k (16 * c.loop-i.i));
    }
