use Rattle.std.proofs.Common.{◌∙◌, arith}
use Rattle.rs01_columns.specs.Program.{meaning}
use Rattle.rs01_columns.proofs.certificate.run_on_units.Goals as goal

pub returns : goal.returns
returns c = λ i h j.
    c.run.ensures i (omega arith) j ∙ (λ t. meaning c.args.program.now.steps.items (λ n. c.lay_unit_words.ensures i h n t) j)
