use Rattle.std.proofs.Common.{arith}
use Rattle.rs01_verify.proofs.FullnessLemmas.{first_largest_is}
use Rattle.rs01_verify.proofs.fullest.largest.Goals as goal

pub returns-clause-first : goal.returns-clause-first
returns-clause-first c =
    first_largest_is c.args.counts.now c.loop-place.best (omega arith) c.loop-place.invariant.within
    (λ k l. c.loop-place.invariant.below k (omega arith)) c.loop-place.invariant.before
