use Rattle.std.proofs.Common.{ap, arith, ◌∙◌}
use Rattle.rs01_erase.specs.Restoring.{word_if}
use Rattle.rs01_erase.proofs.Completing.{places_below}
use Rattle.rs01_erase.proofs.RestoringLemmas.{one_more_held}
use Rattle.rs01_erase.proofs.correct.restore_all.Goals as goal

pub store-requires-clause-below : goal.store-requires-clause-below
store-requires-clause-below c = places_below c.args.input.now c.args.erased.now 255 c.requires.erased (omega arith)

pub loop-codeword-preserved : goal.loop-codeword-preserved
loop-codeword-preserved c = record {
  room = omega arith;
  held = one_more_held c.args.input.now c.args.erased.now c.loop-codeword.restored c.store.new.restored c.complete.new.word c.loop-codeword.codeword (omega arith)
      (c.complete.ensures ∙ ap (λ here. word_if here c.complete.new.word) c.if-not-complete.false)
      c.store.ensures.here c.store.ensures.others c.loop-codeword.invariant.held;
}

pub returns-then-not-complete : goal.returns-then-not-complete
returns-then-not-complete c = record {
  most = omega arith;
  held = c.loop-codeword.invariant.held;
  next = λ _. c.complete.ensures ∙ ap (λ here. word_if here c.complete.new.word) c.if-not-complete.true;
}

pub returns : goal.returns
returns c = record {
  most = omega arith;
  held = λ b h. c.loop-codeword.invariant.held b (omega arith);
  next = λ h. absurd (omega arith);
}
