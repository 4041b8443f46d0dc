use Rattle.std.proofs.Common.{◌≡◌, ◌∙◌, arith, ap, sym, ⊎_elim, get_or, false}
use Rattle.std.specs.Prelude.{Some}
use Rattle.std.proofs.lemmas.Bool.{cases_eq}
use Rattle.rs01_layers.specs.Layout.{place_of, sector_at}
use Rattle.rs01_layers.proofs.PlaceLemmas.{each_sector_has_a_place, each_sector_has_one_place}
use Rattle.rs01_ecchead.proofs.Shapes.{is_shape}
use Rattle.rs01_fix.proofs.repairs.flag_layer.Goals as goal

pub loop-place-preserved : goal.loop-place-preserved
loop-place-preserved c =
    let found = c.args.found.now in
    let n = found.ecc.head.sectors in
    let r = found.ecc.head.parity in
    let l = c.args.layer in
    let p = c.loop-place.place in
    let inv = c.loop-place.invariant in
    let puts = c.flag_place.ensures in
    let shape = is_shape found.ecc in
    record {
      len = puts.len ∙ inv.len;
      here = λ s below at low. ⊎_elim
          (λ (same : place_of n r s ≡ p).
          puts.here s below (sym (each_sector_has_a_place n r s shape below).2 ∙ (λ i. sector_at n r (at i) (same i))) ∙ ap (λ k. get_or c.args.flags.now k false) (sym same))
          (λ other. puts.others s below (λ (e : Some s ≡ sector_at n r l p). other (each_sector_has_one_place n r l p s shape c.requires.layer (sym e)).1)
          ∙ inv.here s below at (omega (arith, other, low)))
          (cases_eq (place_of n r s) p);
      others = λ s below apart.
          puts.others s below (λ (e : Some s ≡ sector_at n r l p). apart (each_sector_has_one_place n r l p s shape c.requires.layer (sym e)).0) ∙ inv.others s below apart;
    }

pub returns : goal.returns
returns c =
    let found = c.args.found.now in
    let n = found.ecc.head.sectors in
    let r = found.ecc.head.parity in
    let inv = c.loop-place.invariant in
    record {
      len = inv.len;
      here = λ s below at. inv.here s below at
          (let in_range = (each_sector_has_a_place n r s (is_shape found.ecc) below).1 in omega (arith, in_range, c.data-place-end.ensures.value, c.shape.ensures.parity, c.loop-place-test.false));
      others = inv.others;
    }
