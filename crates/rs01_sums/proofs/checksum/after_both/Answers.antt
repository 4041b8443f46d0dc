use Rattle.std.proofs.Common.{◌++◌, sym, ◌∙◌, arith}
use Rattle.std.proofs.lemmas.List.{take-append-drop}
use Rattle.rs01_sums.proofs.ChecksumSteps.{next_piece}
use Rattle.rs01_sums.proofs.checksum.after_both.Goals as goal

pub loop-rest-preserved : goal.loop-rest-preserved
loop-rest-preserved c = (
  omega (arith, c.loop-rest.invariant.0, c.split_at.ensures.back_len, c.split_at-in-loop-rest.ensures.back_len),
  next_piece c.loop-rest.rest.now c.split_at.result.0.now c.split_at.result.1.now c.loop-rest.first c.after_sixteen-first.result _
      (sym ((λ i. c.split_at.ensures.front i ++ c.split_at.ensures.back i) ∙ take-append-drop 16 c.loop-rest.rest.now))
      c.after_sixteen-first.ensures c.loop-rest.invariant.1,
  next_piece c.loop-rest.other_rest.now c.split_at-in-loop-rest.result.0.now c.split_at-in-loop-rest.result.1.now c.loop-rest.second c.after_sixteen-second.result _
      (sym ((λ i. c.split_at-in-loop-rest.ensures.front i ++ c.split_at-in-loop-rest.ensures.back i) ∙ take-append-drop 16 c.loop-rest.other_rest.now))
      c.after_sixteen-second.ensures c.loop-rest.invariant.2,
)
