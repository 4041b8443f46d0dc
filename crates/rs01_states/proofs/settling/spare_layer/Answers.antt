use Rattle.std.proofs.Common.{◌∙◌, refl, arith}
use Rattle.rs01_states.proofs.LayerLemmas.{own-layer, same-layer, untouched, walk-starts, walk-goes-on, walk-ends}
use Rattle.rs01_states.proofs.settling.spare_layer.Goals as goal

pub loop-sector-init : goal.loop-sector-init
loop-sector-init c = record {
  place = own-layer c.args.layer c.args.layers c.requires.layer;
  near = omega arith;
  done = walk-starts c.args.layers c.args.layer c.args.states.now c.requires.layer;
  left = λ k from. refl;
}

pub loop-sector-preserved : goal.loop-sector-preserved
loop-sector-preserved c = record {
  place = same-layer c.loop-sector.sector c.args.layers ∙ c.loop-sector.invariant.place;
  near = omega arith;
  done = walk-goes-on _ _ _ _ _ _ _ (omega arith) c.loop-sector.invariant.place (omega arith) c.loop-sector.invariant.done c.loop-sector.invariant.left c.spared_where.ensures;
  left = untouched _ _ _ _ _ (omega arith) c.loop-sector.invariant.left;
}

pub returns : goal.returns
returns c s = walk-ends _ _ _ _ _ s (omega arith) c.loop-sector.invariant.done (omega arith)
