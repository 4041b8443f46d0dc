use Rattle.std.proofs.Common.{◌<◌, ◌∙◌, arith, length, sym}
use Rattle.rs01_linear.specs.Report.{tells_of}
use Rattle.rs01_linear.proofs.TellLemmas.{none_more_counted, one_more_counted, tells_at}
use Rattle.rs01_linear.proofs.telling.number_told.Goals as goal
use Rattle.rs01_linear.proofs.telling.number_told.Goals.{then-is_told, else-is_told}

pub loop-sector-preserved : goal.loop-sector-preserved
loop-sector-preserved c =
    let below : c.loop-sector.sector < length c.args.fates.now = omega (arith, c.loop-sector-test.true) in
    let few = c.loop-sector.invariant.few in
    let told = tells_at c.args.fates.now c.args.kind c.loop-sector.sector _ c.is_told.result below c.is_told.ensures in
    elim c.if-is_told.branch [
      | then-is_told w ↦ record {
        counted = w.number-is ∙ one_more_counted (tells_of c.args.fates.now c.args.kind) c.loop-sector.number c.loop-sector.sector c.loop-sector.invariant.counted (sym told ∙ w.if-is_told.true);
        few = omega (arith, w.number-is, few);
      }
      | else-is_told w ↦ record {
        counted = w.number-is ∙ none_more_counted (tells_of c.args.fates.now c.args.kind) c.loop-sector.number c.loop-sector.sector c.loop-sector.invariant.counted (sym told ∙ w.if-is_told.false);
        few = omega (arith, w.number-is, few);
      }
    ]
