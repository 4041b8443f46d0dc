use Rattle.std.proofs.Common.{sym, ◌∙◌}
use Rattle.rs01_words.proofs.Ranges.{value_within}
use Rattle.rs01_words.proofs.value.number_or.Goals as goal

pub returns-in-Ok-clause-range : goal.returns-in-Ok-clause-range
returns-in-Ok-clause-range c = value_within c.args.kind c.args.word.now _ c.requires.sound (sym c.value_of.ensures ∙ c.in-Ok.is)
