use Rattle.std.proofs.Common.{◌∙◌, sym}
use Rattle.rs01_layers.specs.Layout.{sector_at}
use Rattle.rs01_ecchead.specs.Head.{fields_of}
use Rattle.rs01_outside.specs.Files.{bytes_of}
use Rattle.rs01_repair.proofs.InputLemmas.{block_at-padding, block_at-sector}
use Rattle.rs01_reader.specs.Inputs.{kept_in}
use Rattle.rs01_reader.proofs.input.read_place.Goals as goal

pub returns-in_ok-read_kept-in-Some-clause-block : goal.returns-in_ok-read_kept-in-Some-clause-block
returns-in_ok-read_kept-in-Some-clause-block g c = λ tells.
    let e = c.in-Some.ensures ∙ (λ i. sector_at (c.shape.ensures.sectors i) (c.shape.ensures.parity i) c.args.layer c.args.place) in
    let kept = kept_in c.args.ecc.now c.args.course.now (bytes_of (g.D.Desk.state c.args.desk.now).files c.args.image.now) in
    c.in_ok-read_kept-in-Some.ensures.block tells ∙ sym (block_at-sector (fields_of c.args.ecc.now.head) kept c.args.layer c.args.place c.in-Some.sector e)

pub returns-in-None-clause-block : goal.returns-in-None-clause-block
returns-in-None-clause-block g c = λ tells.
    let e = c.in-None.ensures ∙ (λ i. sector_at (c.shape.ensures.sectors i) (c.shape.ensures.parity i) c.args.layer c.args.place) in
    let kept = kept_in c.args.ecc.now c.args.course.now (bytes_of (g.D.Desk.state c.args.desk.now).files c.args.image.now) in
    c.clear.ensures ∙ sym (block_at-padding (fields_of c.args.ecc.now.head) kept c.args.layer c.args.place e)
