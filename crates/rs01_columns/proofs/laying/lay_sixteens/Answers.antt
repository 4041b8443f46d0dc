use Rattle.std.proofs.Common.{◌+◌, ◌-◌, ◌*◌, ◌∙◌, arith, ⊎_elim}
use Rattle.std.proofs.lemmas.Bool.{cases_lt}
use Rattle.rs01_columns.proofs.laying.lay_sixteens.Goals as goal

pub loop-s-preserved : goal.loop-s-preserved
loop-s-preserved c =
    let v = c.loop-s.invariant in
    let n = c.lay_sixteen.ensures in
    let r = c.args.r in
    record {
      long = c.lay_sixteen.auto.bank ∙ v.long;
      wide = c.lay_sixteen.auto.square ∙ v.wide;
      wide_too = c.lay_sixteen.auto.spare ∙ v.wide_too;
      here = λ m j h below.
          ⊎_elim
          (λ early. n.rest.front m (255 - r + j) h (omega arith) ∙ v.here m j h early)
          (λ late. n.here m j h late (omega arith))
          (cases_lt j (16 * c.loop-s.s));
      rest = record {
        front = λ m j h below. n.rest.front m j h (omega arith) ∙ v.rest.front m j h below;
        behind = λ m j h below. n.rest.behind m j h (omega arith) ∙ v.rest.behind m j h (omega arith);
      };
    }
