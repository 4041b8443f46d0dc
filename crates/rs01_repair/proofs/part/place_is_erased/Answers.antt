use Rattle.std.proofs.Common.{◌∙◌, ℕ, Bool, sym}
use Rattle.rs01_layers.specs.Layout.{sector_at}
use Rattle.rs01_ecchead.specs.Erased.{known_of}
use Rattle.rs01_repair.specs.Finding.{fields_in, is_erased_by}
use Rattle.rs01_repair.specs.Parts.{chunk, flag_in}
use Rattle.rs01_repair.proofs.InputLemmas.{flag_at-padding, flag_at-sector}
use Rattle.rs01_repair.proofs.part.place_is_erased.Goals as goal

pub returns-in-Some : goal.returns-in-Some
unfolding flag_in
returns-in-Some c =
    let found = c.args.found.now in
    let s = c.in-Some.sector in
    let judge : ℕ → Bool = λ s. is_erased_by (known_of found.ecc) found.size s (chunk c.args.blocks.now c.args.place) in
    let e = c.in-Some.ensures ∙ (λ i. sector_at (c.shape.ensures.sectors i) (c.shape.ensures.parity i) c.args.layer c.args.place) in
    c.takes_for_erased.ensures ∙ (λ i. is_erased_by (known_of found.ecc) found.size s (c.block_of-block.ensures i))
    ∙ sym (flag_at-sector (fields_in found) judge c.args.layer c.args.place s e)

pub returns-in-None : goal.returns-in-None
unfolding flag_in
returns-in-None c =
    let found = c.args.found.now in
    let judge : ℕ → Bool = λ s. is_erased_by (known_of found.ecc) found.size s (chunk c.args.blocks.now c.args.place) in
    sym (flag_at-padding (fields_in found) judge c.args.layer c.args.place
    (c.in-None.ensures ∙ (λ i. sector_at (c.shape.ensures.sectors i) (c.shape.ensures.parity i) c.args.layer c.args.place)))
