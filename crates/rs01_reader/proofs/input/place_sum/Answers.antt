use Rattle.std.proofs.Common.{◌∙◌, get_or}
use Rattle.rs01_layers.specs.Layout.{sector_at}
use Rattle.rs01_ecchead.specs.Head.{fields_of}
use Rattle.rs01_repair.proofs.InputLemmas.{sum_at-sector, sum_at-padding}
use Rattle.rs01_reader.proofs.input.place_sum.Goals as goal

pub returns-in-Some : goal.returns-in-Some
returns-in-Some c =
    c.get.ensures ∙ (λ i. get_or (c.sums.ensures.sums i).list c.in-Some.sector 0)
    ∙ sum_at-sector (fields_of c.args.ecc.now.head) c.args.ecc.now.sums.list c.args.layer c.args.place c.in-Some.sector
    (c.in-Some.ensures ∙ (λ i. sector_at (c.shape.ensures.sectors i) (c.shape.ensures.parity i) c.args.layer c.args.place))

pub returns-in-None : goal.returns-in-None
returns-in-None c =
    sum_at-padding (fields_of c.args.ecc.now.head) c.args.ecc.now.sums.list c.args.layer c.args.place c.args.ecc.now.recorded
    (c.in-None.ensures ∙ (λ i. sector_at (c.shape.ensures.sectors i) (c.shape.ensures.parity i) c.args.layer c.args.place))
