use Rattle.std.proofs.Common.{ap, ◌∙◌}
use Rattle.std.specs.Prelude.{is_some}
use Rattle.rs01_erase.specs.Restoring.{word_if}
use Rattle.rs01_erase.proofs.RestoringLemmas.{inconsistent_answer}
use Rattle.rs01_erase.proofs.by_columns.answer_stopped.Goals as goal

pub returns : goal.returns
returns c =
    inconsistent_answer c.args.input.now c.args.erased.now c.args.codeword c.requires.erased c.requires.codeword
    (c.complete.ensures ∙ ap (λ here. word_if here c.complete.new.word) c.if-complete.false)
    (λ j h. ap is_some (c.requires.completed j h))
