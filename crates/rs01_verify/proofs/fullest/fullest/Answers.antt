use Rattle.std.proofs.Common.{ap, get_or}
use Rattle.rs01_verify.specs.Fullness.{fullest_of}
use Rattle.rs01_verify.proofs.fullest.fullest.Goals as goal

pub returns : goal.returns
unfolding fullest_of
returns c = λ i. record {
  layer = c.largest-layer.ensures.first i;
  erased = ap (λ k. get_or c.args.counts.now k 0) c.largest-layer.ensures.first i;
  parity = c.args.parity;
  beyond = c.above.ensures.count i;
}
