use Rattle.std.proofs.Common.{◌+◌, ◌∙◌, subst, sym}
use Rattle.rs01_columns.specs.Certificate.{HoldUnitsAfter}
use Rattle.rs01_columns.proofs.Known.{evaluates_all}
use Rattle.rs01_columns.proofs.certificate.evaluates.Goals as goal

pub returns : goal.returns
returns c = λ holds.
    let kept = c.args.kept.now in
    let steps = kept.program.steps.items in
    let units : HoldUnitsAfter c.deref.result.now 255 steps = subst (λ b. HoldUnitsAfter b 255 steps) (sym c.deref.ensures.value) c.in_ok-bank.ensures.units in
    evaluates_all steps kept.parity_count (λ i d h. (kept.program.within i d h).factor) (λ i h j m. sym (units i h (255 + j)) ∙ c.hold_values.ensures holds i h j m)
