use Rattle.rs01_create.proofs.Settlings.{outs_more}
use Rattle.rs01_create.proofs.settling.parity_of.Goals as goal

pub loop-i-preserved : goal.loop-i-preserved
loop-i-preserved c = outs_more c.args.results.now.outs c.loop-i.i c.out.result.now _ _ c.out.ensures c.loop-i.invariant c.in_ok-push_out.ensures
