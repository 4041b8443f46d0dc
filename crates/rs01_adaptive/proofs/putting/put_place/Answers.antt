use Rattle.std.proofs.Common.{rules, ◌∙◌}
use Rattle.rs01_layers.specs.Layout.{sector_at}
use Rattle.rs01_adaptive.proofs.PuttingLemmas.{put_here, put_padding}
use Rattle.rs01_adaptive.proofs.putting.put_place.Goals as goal

pub returns-in-Some : goal.returns-in-Some
returns-in-Some g c =
    let e = c.in-Some.ensures ∙ (λ i. sector_at (c.shape.ensures.sectors i) (c.shape.ensures.parity i) c.args.layer c.args.place) in
    record {
      changes = c.put_block.ensures.changes;
      put = λ before t long has.
          put_here c.args.ecc.now c.args.layer c.args.place c.in-Some.sector c.args.answer.now _ before c.args.name.now _ _ c.put_block.result
          c.requires.place.layer c.requires.place.place e c.requires.blocks c.restored_block.ensures long
          (c.put_block.ensures.none t) (λ bytes is. c.put_block.ensures.put bytes t is) has;
    }

pub returns-in-None : goal.returns-in-None
returns-in-None g c = record {
  changes = search rules;
  put = λ before t long has.
      put_padding c.args.ecc.now c.args.layer c.args.place c.args.answer.now before _
      (c.in-None.ensures ∙ (λ i. sector_at (c.shape.ensures.sectors i) (c.shape.ensures.parity i) c.args.layer c.args.place)) has;
}
