use Rattle.std.proofs.Common.{◌∙◌, refl, arith, ap, List, length}
use Rattle.std.specs.Prelude.{Bool, false}
use Rattle.std.proofs.lemmas.List.{length-set}
use Rattle.rs01_intervals.specs.Maximal.{flag_at}
use Rattle.rs01_states.proofs.LayerLemmas.{own-layer, same-layer}
use Rattle.rs01_reader.proofs.TakeLemmas.{behind-stays, layer-ends, layer-goes-on, layer-starts}
use Rattle.rs01_reader.proofs.sparing.take_layer.Goals as goal

pub loop-sector-init : goal.loop-sector-init
loop-sector-init c = record {
  len = refl;
  place = own-layer c.args.layer c.args.layers c.requires.layer;
  near = omega arith;
  done = layer-starts c.args.layers c.args.layer c.args.unread.now c.requires.layer;
  left = λ k from. refl;
}

pub loop-sector-preserved : goal.loop-sector-preserved
loop-sector-preserved c =
    let i = c.loop-sector.invariant in
    let is = c.take_if_unread.ensures in
    record {
      len = ap length is ∙ length-set c.loop-sector.unread c.loop-sector.sector false ∙ i.len;
      place = same-layer c.loop-sector.sector c.args.layers ∙ i.place;
      near = omega (arith, c.loop-sector-test.true);
      done = λ k below. ap (λ (xs : List Bool). flag_at xs k) is ∙ layer-goes-on c.args.layers c.args.layer c.args.unread.now c.loop-sector.unread c.loop-sector.sector (omega (arith, c.requires.layer)) i.place i.done i.left k below;
      left = λ k from. ap (λ (xs : List Bool). flag_at xs k) is ∙ behind-stays c.args.unread.now c.loop-sector.unread c.loop-sector.sector _ (omega (arith, c.requires.layer)) i.left k from;
    }

pub returns-clause-flags : goal.returns-clause-flags
returns-clause-flags c s = layer-ends _ _ _ _ _ s c.loop-sector.invariant.len c.loop-sector.invariant.done (omega (arith, c.loop-sector-test.false, c.requires.all))
