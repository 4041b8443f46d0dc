use Rattle.std.proofs.Common.{sym, ◌∙◌, arith}
use Rattle.rs01_words.proofs.Numbers.{number_of-nil, up_to-more, up_to-take}
use Rattle.rs01_words.proofs.value.number_up_to.Goals as goal

pub loop-digit-init : goal.loop-digit-init
loop-digit-init c = (sym number_of-nil, omega arith)

pub returns-in-None : goal.returns-in-None
returns-in-None c =
    up_to-take _ _ _ _ c.loop-digit-test.true c.loop-digit.invariant.0 (sym c.in-None.is ∙ c.add_digit.ensures)

pub loop-digit-preserved : goal.loop-digit-preserved
loop-digit-preserved c =
    up_to-more _ _ _ _ _ c.loop-digit-test.true c.loop-digit.invariant.0 (sym c.in-Some.is ∙ c.add_digit.ensures)
