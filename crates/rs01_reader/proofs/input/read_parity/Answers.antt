use Rattle.std.proofs.Common.{◌≡◌, ◌∙◌, ap, ◌*◌}
use Rattle.rs01_layers.specs.Layout.{parity_offset}
use Rattle.rs01_ecchead.proofs.Parts.{whole_piece}
use Rattle.rs01_reader.proofs.ReadLemmas.{parity_read}
use Rattle.rs01_reader.proofs.input.read_parity.Goals as goal

pub returns-clause-parity : goal.returns-clause-parity
returns-clause-parity g c = λ tells whole.
    let ecc = c.args.ecc.now in
    let at = c.parity_offset.ensures ∙ (λ i. parity_offset (c.shape-shape.ensures.sectors i) (c.shape-shape.ensures.parity i) c.args.layer 0) in
    let room : 2048 * c.parity.result ≡ 2048 * ecc.head.parity = ap (λ n. 2048 * n) (c.parity.ensures ∙ c.shape-shape.ensures.parity) in
    parity_read ecc.head.sectors ecc.head.parity c.args.layer _ _ _ _ c.requires at room whole
    (λ fits. whole_piece _ _ _ _ c.in_ok-read_bytes.ensures.len (c.in_ok-read_bytes.ensures.bytes tells) fits)
