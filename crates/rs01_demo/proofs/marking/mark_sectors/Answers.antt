use Rattle.std.proofs.Common.{◌≡◌, ◌*◌, ◌∙◌, ap, arith, subst, sym}
use Rattle.std.specs.Prelude.{IsTrue, Some}
use Rattle.rs01_linear.specs.Left.{mixed}
use Rattle.rs01_outside.proofs.States.{changes-then}
use Rattle.rs01_demo.specs.Plan.{marked}
use Rattle.rs01_demo.proofs.PlanLemmas.{all_marked}
use Rattle.rs01_demo.proofs.StepLemmas.{marker_failed, marker_written}
use Rattle.rs01_demo.proofs.marking.mark_sectors.Goals as goal

pub returns-in-Err-clause-marked : goal.returns-in-Err-clause-marked
returns-in-Err-clause-marked g c = λ t bytes fits is.
    marker_failed _ _ c.args.name.now c.marker.new.into bytes c.args.lost c.loop-sector.sector _ c.in-Err.field-0 c.marker.ensures (ap (λ n. 2048 * n) c.from.ensures) c.loop-sector-test.true fits
    (c.loop-sector.invariant.file_is bytes t fits is) (c.in-Err.ensures.written (subst IsTrue (sym c.loop-sector.invariant.changes.tells) t))

pub loop-sector-preserved : goal.loop-sector-preserved
loop-sector-preserved g c = record {
  changes = changes-then _ _ _ _ _ c.loop-sector.invariant.changes c.in-Ok.ensures.changes;
  file_is = λ bytes t fits is.
      marker_written _ _ c.args.name.now c.marker.new.into bytes c.args.lost c.loop-sector.sector _ c.marker.ensures (ap (λ n. 2048 * n) c.from.ensures) c.loop-sector-test.true fits
      (c.loop-sector.invariant.file_is bytes t fits is) (c.in-Ok.ensures.written (subst IsTrue (sym c.loop-sector.invariant.changes.tells) t));
}

pub returns-clause-marked : goal.returns-clause-marked
returns-clause-marked g c = λ t bytes fits is.
    let all : c.loop-sector.sector ≡ c.args.lost = omega (arith, c.loop-sector-test.false, c.loop-sector.auto.sector-end) in
    c.loop-sector.invariant.file_is bytes t fits is
    ∙ ap (λ n. Some (mixed (2048 * n) (marked bytes c.args.lost) bytes)) all
    ∙ ap Some (all_marked bytes c.args.lost)
