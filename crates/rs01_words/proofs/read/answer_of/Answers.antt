use Rattle.std.proofs.Common.{sym, subst}
use Rattle.rs01_words.specs.declared.command.Command.{Command}
use Rattle.rs01_words.specs.Line.{texts}
use Rattle.rs01_words.specs.Command.{NamesDiffer}
use Rattle.rs01_words.proofs.Names.{names_differ}
use Rattle.rs01_words.proofs.read.answer_of.Goals as goal

pub returns-in-None-clause-names : goal.returns-in-None-clause-names
returns-in-None-clause-names c =
    let P : Command → Type 0 = NamesDiffer (texts c.args.words.now) in
    subst P (sym c.command_of.ensures.value) (names_differ c.args.verb (texts c.args.words.now) c.in-None.ensures.clear)
