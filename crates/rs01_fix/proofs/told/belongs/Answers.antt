use Rattle.std.proofs.Common.{◌≡◌, ◌∙◌, arith, ap, sym, false}
use Rattle.std.specs.Prelude.{not}
use Rattle.rs01_layers.specs.Layout.{layer_of}
use Rattle.rs01_layers.proofs.PlaceLemmas.{each_sector_has_a_place}
use Rattle.rs01_ecchead.proofs.Shapes.{is_shape}
use Rattle.rs01_fix.proofs.ToldLemmas.{any_default, belongs_lost, belongs_not, belongs_restored}
use Rattle.rs01_fix.proofs.told.belongs.Goals as goal

pub returns-then-restored : goal.returns-then-restored
returns-then-restored c = λ was kept.
    let found = c.args.found.now in
    let s = c.args.sector in
    let low = (each_sector_has_a_place found.ecc.head.sectors found.ecc.head.parity s (is_shape found.ecc) c.requires.sector).0 in
    let layer : c.layer_of.result ≡ layer_of found.ecc.head.sectors found.ecc.head.parity s =
    c.layer_of.ensures ∙ (λ i. layer_of (c.shape.ensures.sectors i) (c.shape.ensures.parity i) s) in
    c.index-is_restored.ensures
    ∙ any_default c.args.repairs.now.restored.items c.layer_of.result c.index-is_restored.result.now false (omega (arith, layer, low, c.requires.room.restored))
    ∙ belongs_restored found was c.args.restored s c.layer_of.result c.args.repairs.now.restored.items c.requires.sector kept.restored layer
    (sym (kept.erased s c.requires.sector low) ∙ any_default c.args.repairs.now.erased.items s false c.index-is_erased.result.now (omega (arith, c.requires.sector, c.requires.room.erased))
    ∙ sym c.index-is_erased.ensures ∙ c.if-is_erased.true) c.if-restored.true

pub returns-else-restored : goal.returns-else-restored
returns-else-restored c = λ was kept.
    let found = c.args.found.now in
    let s = c.args.sector in
    let low = (each_sector_has_a_place found.ecc.head.sectors found.ecc.head.parity s (is_shape found.ecc) c.requires.sector).0 in
    let layer : c.layer_of.result ≡ layer_of found.ecc.head.sectors found.ecc.head.parity s =
    c.layer_of.ensures ∙ (λ i. layer_of (c.shape.ensures.sectors i) (c.shape.ensures.parity i) s) in
    ap not (c.index-is_restored.ensures
    ∙ any_default c.args.repairs.now.restored.items c.layer_of.result c.index-is_restored.result.now false (omega (arith, layer, low, c.requires.room.restored)))
    ∙ belongs_lost found was c.args.restored s c.layer_of.result c.args.repairs.now.restored.items c.requires.sector kept.restored layer
    (sym (kept.erased s c.requires.sector low) ∙ any_default c.args.repairs.now.erased.items s false c.index-is_erased.result.now (omega (arith, c.requires.sector, c.requires.room.erased))
    ∙ sym c.index-is_erased.ensures ∙ c.if-is_erased.true) c.if-restored.false

pub returns-else-is_erased : goal.returns-else-is_erased
returns-else-is_erased c = λ was kept.
    let found = c.args.found.now in
    let s = c.args.sector in
    let low = (each_sector_has_a_place found.ecc.head.sectors found.ecc.head.parity s (is_shape found.ecc) c.requires.sector).0 in
    belongs_not found was c.args.restored s c.index-is_erased.result.now c.requires.sector
    (sym (kept.erased s c.requires.sector low) ∙ any_default c.args.repairs.now.erased.items s false c.index-is_erased.result.now (omega (arith, c.requires.sector, c.requires.room.erased))
    ∙ sym c.index-is_erased.ensures ∙ c.if-is_erased.false) c.if-is_erased.false
