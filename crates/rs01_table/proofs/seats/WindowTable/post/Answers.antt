use Rattle.std.proofs.Common.{rules}
use Rattle.rs01_table.proofs.seats.WindowTable.post.Goals as goal

pub show-requires-clause-has : goal.show-requires-clause-has
show-requires-clause-has g c κs lives = (c.args.input, c.requires.fit, search rules)
