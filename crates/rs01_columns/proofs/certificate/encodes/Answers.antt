use Rattle.std.proofs.Common.{◌+◌, ◌-◌, ◌∙◌, subst, sym}
use Rattle.rs01_columns.specs.Certificate.{HoldUnitsAfter}
use Rattle.rs01_columns.proofs.Known.{encodes_all}
use Rattle.rs01_columns.proofs.certificate.encodes.Goals as goal

pub returns : goal.returns
returns c = λ holds.
    let kept = c.args.kept.now in
    let steps = kept.program.steps.items in
    let k = 255 - kept.parity_count in
    let units : HoldUnitsAfter c.deref.result.now k steps = subst (λ b. HoldUnitsAfter b k steps) (sym c.deref.ensures.value) c.in_ok-bank.ensures.units in
    encodes_all steps kept.parity_count (λ i d h. (kept.program.within i d h).factor) (λ i h j m. sym (units i h (k + j)) ∙ c.hold_parity.ensures holds i h j m)
