use Rattle.rs01_columns.proofs.Riffles.{first_turns}
use Rattle.rs01_columns.proofs.turning.first_by_turns.Goals as goal

pub returns : goal.returns
returns c = first_turns c.args.a c.args.b c.requires.a c.requires.b
