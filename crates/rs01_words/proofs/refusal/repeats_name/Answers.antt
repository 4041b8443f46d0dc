use Rattle.std.proofs.Common.{sym, ◌∙◌, refl}
use Rattle.rs01_words.proofs.PlaceLists.{find-more}
use Rattle.rs01_words.proofs.Steps.{known_first}
use Rattle.rs01_words.proofs.Refusals.{repeats_name-true, repeats_name-false, clash-is}
use Rattle.rs01_words.proofs.refusal.repeats_name.Goals as goal

pub loop-earlier-init : goal.loop-earlier-init
loop-earlier-init c = record { known = known_first _ _ _ c.start-before.ensures; passed = refl }

pub returns-then-clash : goal.returns-then-clash
returns-then-clash c =
    repeats_name-true _ _ _ _ c.loop-earlier.invariant.known.0 c.loop-earlier-test.true
    (sym (c.clash.ensures ∙ clash-is _ _ _ _ _ _ _ _ c.requires.stands_for c.kind_at-other.ensures c.word_at.ensures c.word_at-in-loop-earlier.ensures) ∙ c.if-clash.true) c.loop-earlier.invariant.passed

pub loop-earlier-preserved : goal.loop-earlier-preserved
loop-earlier-preserved c = record {
  known = c.next-before.ensures;
  passed =
      find-more _ c.loop-earlier.earlier c.loop-earlier.invariant.known.0
      (sym (c.clash.ensures ∙ clash-is _ _ _ _ _ _ _ _ c.requires.stands_for c.kind_at-other.ensures c.word_at.ensures c.word_at-in-loop-earlier.ensures) ∙ c.if-clash.false) c.loop-earlier.invariant.passed;
}

pub returns : goal.returns
returns c =
    repeats_name-false _ _ _ c.loop-earlier.earlier c.loop-earlier-test.false c.loop-earlier.auto.earlier-end c.loop-earlier.invariant.passed
