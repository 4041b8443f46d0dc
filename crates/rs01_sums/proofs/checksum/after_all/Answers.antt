use Rattle.std.proofs.Common.{◌++◌, sym, ◌∙◌}
use Rattle.std.proofs.lemmas.List.{take-append-drop}
use Rattle.rs01_sums.proofs.ChecksumSteps.{next_piece}
use Rattle.rs01_sums.proofs.checksum.after_all.Goals as goal

pub loop-rest-preserved : goal.loop-rest-preserved
loop-rest-preserved c =
    next_piece c.loop-rest.rest.now c.split_at.result.0.now c.split_at.result.1.now c.loop-rest.state c.after_sixteen-state.result _
    (sym ((λ i. c.split_at.ensures.front i ++ c.split_at.ensures.back i) ∙ take-append-drop 16 c.loop-rest.rest.now))
    c.after_sixteen-state.ensures c.loop-rest.invariant
