use Rattle.std.proofs.Common.{arith}
use Rattle.rs01_demo.proofs.GeneratorLemmas.{filled_more, stretch_is}
use Rattle.rs01_demo.proofs.generator.fill.Goals as goal

pub loop-place-preserved : goal.loop-place-preserved
loop-place-preserved c = λ number from e.
    filled_more number from c.loop-place.place c.loop-place.last _ _ c.loop-place.into (c.loop-place.invariant number from e) (omega arith) c.next-last.ensures c.byte_of.ensures

pub returns-clause-bytes : goal.returns-clause-bytes
returns-clause-bytes c = λ number from e.
    stretch_is number from c.loop-place.place c.loop-place.last _ c.loop-place.into (c.loop-place.invariant number from e) (omega arith) (omega arith)
