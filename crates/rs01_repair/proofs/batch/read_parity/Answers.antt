use Rattle.std.proofs.Common.{◌≡◌, ◌∙◌, ◌*◌, ap}
use Rattle.rs01_layers.specs.Layout.{parity_offset}
use Rattle.rs01_ecchead.proofs.Parts.{whole_piece}
use Rattle.rs01_repair.proofs.ParityLemmas.{parity_run}
use Rattle.rs01_repair.proofs.batch.read_parity.Goals as goal

pub returns-clause-parity : goal.returns-clause-parity
returns-clause-parity g c = λ e has.
    let found = c.args.found.now in
    let n = found.ecc.head.sectors in
    let r = found.ecc.head.parity in
    let at = c.parity_offset.ensures ∙ (λ i. parity_offset (c.shape-shape.ensures.sectors i) (c.shape-shape.ensures.parity i) c.args.first 0) in
    let room : 2048 * c.parity.result * c.args.count ≡ 2048 * r * c.args.count = ap (λ m. 2048 * m * c.args.count) (c.parity.ensures ∙ c.shape-shape.ensures.parity) in
    parity_run n r c.args.first c.args.count _ _ _ e _ c.requires.layers at room has.bytes has.whole
    (λ fits. whole_piece _ _ _ _ c.in_ok-read_bytes.ensures.len (c.in_ok-read_bytes.ensures.bytes has.tells) fits)
