use Rattle.std.proofs.Common.{ap, arith, sym, ◌∙◌, string_bytes}
use Rattle.std.proofs.lemmas.List.{length-map}
use Rattle.rs01_words.proofs.Refusals.{missing_word-Some, missing_word-None, missing_word-enough, missing_word-zero}
use Rattle.rs01_words.proofs.refusal.missing_word.Goals as goal
use Rattle.std.proofs.Common.{not}
use Rattle.rs01_words.proofs.refusal.missing_word.Goals.{else-needed-gt0-via-then-needed-gt0+else-is_none, else-needed-gt0-via-else-needed-gt0}

pub returns-then-is_none-clause-value : goal.returns-then-is_none-clause-value
returns-then-is_none-clause-value c =
    missing_word-Some _ _ _ _ _ c.needed_of-needed.ensures (sym (length-map c.args.words.now string_bytes)) c.if-needed-gt0.true c.plain_place.ensures.value (c.is_none.ensures ∙ ap not c.if-is_none.true)

pub returns-clause-value : goal.returns-clause-value
returns-clause-value c =
    elim c.else-needed-gt0.branch [
      | else-needed-gt0-via-then-needed-gt0+else-is_none w ↦
          missing_word-None _ _ _ _ _ c.needed_of-needed.ensures (sym (length-map c.args.words.now string_bytes)) w.plain_place.ensures.value (w.is_none.ensures ∙ ap not w.if-is_none.false)
      | else-needed-gt0-via-else-needed-gt0 w ↦
          missing_word-zero _ _ _ c.needed_of-needed.ensures w.if-needed-gt0.false
    ]

pub returns-clause-clear : goal.returns-clause-clear
returns-clause-clear c =
    elim c.else-needed-gt0.branch [
      | else-needed-gt0-via-then-needed-gt0+else-is_none w ↦
          missing_word-enough _ _ _ _ _ c.needed_of-needed.ensures (sym (length-map c.args.words.now string_bytes)) w.plain_place.ensures.value (w.is_none.ensures ∙ ap not w.if-is_none.false)
      | else-needed-gt0-via-else-needed-gt0 w ↦ omega (arith, c.needed_of-needed.ensures, w.if-needed-gt0.false)
    ]
