use Rattle.rs01_columns.proofs.Riffles.{last_turns}
use Rattle.rs01_columns.proofs.turning.last_by_turns.Goals as goal

pub returns : goal.returns
returns c = last_turns c.args.a c.args.b c.requires.a c.requires.b
