use Rattle.rs01_fakes.proofs.ScriptLemmas.{passed_over}
use Rattle.rs01_fakes.proofs.scripts.place_of.Goals as goal

pub loop-place-preserved : goal.loop-place-preserved
loop-place-preserved c = passed_over _ _ _ _ c.loop-place-test.true c.loop-place.invariant c.if-next-sector.false
