use Rattle.std.proofs.Common.{◌∙◌, sym}
use Rattle.rs01_layers.specs.Layout.{sector_at}
use Rattle.rs01_ecchead.specs.Head.{fields_of}
use Rattle.rs01_repair.proofs.InputLemmas.{flag_at-sector, flag_at-padding}
use Rattle.rs01_reader.specs.Inputs.{is_gone}
use Rattle.rs01_reader.proofs.input.place_flag.Goals as goal

pub returns-in-Some : goal.returns-in-Some
returns-in-Some c =
    let e = c.in-Some.ensures ∙ (λ i. sector_at (c.shape.ensures.sectors i) (c.shape.ensures.parity i) c.args.layer c.args.place) in
    c.is_gone.ensures ∙ sym (flag_at-sector (fields_of c.args.ecc.now.head) (is_gone c.args.course.now) c.args.layer c.args.place c.in-Some.sector e)

pub returns-in-None : goal.returns-in-None
returns-in-None c =
    sym (flag_at-padding (fields_of c.args.ecc.now.head) (is_gone c.args.course.now) c.args.layer c.args.place
    (c.in-None.ensures ∙ (λ i. sector_at (c.shape.ensures.sectors i) (c.shape.ensures.parity i) c.args.layer c.args.place)))
