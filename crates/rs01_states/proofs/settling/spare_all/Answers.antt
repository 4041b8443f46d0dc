use Rattle.std.proofs.Common.{arith}
use Rattle.rs01_states.proofs.StateLemmas.{all-are-spared}
use Rattle.rs01_states.proofs.LayerLemmas.{by-count, written, untouched}
use Rattle.rs01_states.proofs.settling.spare_all.Goals as goal

pub loop-sector-preserved : goal.loop-sector-preserved
loop-sector-preserved c =
    let unchanged = c.loop-sector.invariant.left c.loop-sector.sector (omega arith) in
    record {
      done = written _ _ _ _ (omega arith) c.loop-sector.invariant.done
          (by-count c.args.layers c.args.bound c.args.states.now c.loop-sector.states c.args.counts.now c.loop-sector.sector _ c.spared_where.result (omega arith) unchanged c.requires c.spared_where.ensures);
      left = untouched _ _ _ _ _ (omega arith) c.loop-sector.invariant.left;
    }

pub returns : goal.returns
returns c = all-are-spared _ _ _ _ (omega arith) (λ s below. c.loop-sector.invariant.done s (omega arith))
