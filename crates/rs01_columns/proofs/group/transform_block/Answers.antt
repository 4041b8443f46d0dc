use Rattle.std.proofs.Common.{arith, ⊎_elim}
use Rattle.rs01_columns.proofs.Grouped.{lane_transformed}
use Rattle.rs01_columns.proofs.group.transform_block.Goals as goal

pub returns-clause-here : goal.returns-clause-here
returns-clause-here c = λ l h j.
    lane_transformed c.args.columns.now c.args.bank.now c.take.new.room c.transform.new.room c.put.new.bank c.args.on l j c.requires.columns h c.requires.on
    c.take.ensures (λ i. c.transform.ensures l h i) c.put.ensures.here c.put.ensures.rest

pub returns-clause-rest : goal.returns-clause-rest
returns-clause-rest c = λ l h apart j.
    c.put.ensures.rest l j h (λ i hi a b e. ⊎_elim (λ low. absurd (omega (arith, low, a))) (λ high. absurd (omega (arith, high, b))) apart)
