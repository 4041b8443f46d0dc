use Rattle.std.proofs.Common.{◌∙◌}
use Rattle.rs01_columns.proofs.turning.lay_square.Goals as goal

pub returns-clause-here : goal.returns-clause-here
returns-clause-here c = λ i k h below. c.put_rows.ensures.here k i below h ∙ c.turn.ensures i k h below ∙ c.take_rows.ensures i k h below
