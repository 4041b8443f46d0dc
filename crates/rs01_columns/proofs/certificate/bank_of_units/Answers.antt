use Rattle.std.proofs.Common.{◌*◌, ◌∙◌, ap, get_or}
use Rattle.rs01_lists.proofs.Padding.{get_or-zeros}
use Rattle.rs01_columns.proofs.certificate.bank_of_units.Goals as goal

pub run_on_units-requires-clause-zeros : goal.run_on_units-requires-clause-zeros
run_on_units-requires-clause-zeros c = λ p.
    ap (λ b. get_or b p 0) (c.deref_mut.ensures.value ∙ c.in_ok-bank.ensures.zeros) ∙ get_or-zeros (1088 * c.args.program.now.columns) p
