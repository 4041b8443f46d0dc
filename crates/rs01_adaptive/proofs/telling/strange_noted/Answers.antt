use Rattle.std.proofs.Common.{◌∙◌, ap, arith}
use Rattle.std.proofs.lemmas.List.{take_all}
use Rattle.rs01_adaptive.specs.Noting.{strange_noted}
use Rattle.rs01_adaptive.proofs.NotingLemmas.{strange_more}
use Rattle.rs01_adaptive.proofs.telling.strange_noted.Goals as goal

pub loop-strange-preserved : goal.loop-strange-preserved
loop-strange-preserved c =
    strange_more c.args.noted.now c.loop-strange.strange-index _ c.loop-strange.list.items _ (omega (arith, c.loop-strange-test.true))
    c.loop-strange.invariant c.in_ok-push_strange.ensures

pub returns : goal.returns
returns c =
    c.of.ensures ∙ c.loop-strange.invariant
    ∙ ap strange_noted (take_all c.loop-strange.strange-index c.args.noted.now (omega (arith, c.loop-strange-test.false)))
