use Rattle.std.proofs.Common.{ap, sym, ◌∙◌, string_bytes}
use Rattle.std.proofs.lemmas.List.{length-map}
use Rattle.rs01_words.specs.Grammar.{verb_of}
use Rattle.rs01_words.proofs.Answering.{words_of-none, words_of-some}
use Rattle.rs01_words.proofs.read.read_words.Goals as goal

pub returns-then-is_empty-clause-answer : goal.returns-then-is_empty-clause-answer
returns-then-is_empty-clause-answer c =
    words_of-none _ _ (sym (length-map c.args.words.now string_bytes)) (sym c.is_empty.ensures ∙ c.if-is_empty.true)

pub returns-in-None-clause-answer : goal.returns-in-None-clause-answer
returns-in-None-clause-answer c =
    words_of-some _ _ _ (sym (length-map c.args.words.now string_bytes)) (sym c.is_empty.ensures ∙ c.if-is_empty.false) (sym c.in-None.is ∙ c.verb_of.ensures ∙ ap verb_of c.word_at.ensures)

pub returns-in-Some-clause-answer : goal.returns-in-Some-clause-answer
returns-in-Some-clause-answer c =
    c.answer_of.ensures.answer ∙
    words_of-some _ _ _ (sym (length-map c.args.words.now string_bytes)) (sym c.is_empty.ensures ∙ c.if-is_empty.false) (sym c.in-Some.is ∙ c.verb_of.ensures ∙ ap verb_of c.word_at.ensures)
