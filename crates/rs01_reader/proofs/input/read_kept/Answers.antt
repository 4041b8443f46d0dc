use Rattle.std.proofs.Common.{◌∙◌, sym}
use Rattle.rs01_outside.specs.Files.{bytes_of}
use Rattle.rs01_layers.specs.Sectors.{block, length_of}
use Rattle.rs01_reader.proofs.ReadLemmas.{kept-gone, kept-good, one_block}
use Rattle.rs01_reader.proofs.input.read_kept.Goals as goal

pub returns-then-is_gone-clause-block : goal.returns-then-is_gone-clause-block
returns-then-is_gone-clause-block g c = λ tells.
    c.clear.ensures ∙ sym (kept-gone c.args.ecc.now c.args.course.now _ c.args.sector (sym c.is_gone.ensures ∙ c.if-is_gone.true))

pub returns-clause-block : goal.returns-clause-block
returns-clause-block g c = λ tells.
    one_block _ _ _ c.args.sector c.read_run.new.into (c.read_run.auto.into ∙ c.told-block) (c.in_ok-read_run.ensures.blocks tells)
    ∙ (λ i. block (bytes_of (g.D.Desk.state c.args.desk.now).files c.args.image.now) c.args.sector (length_of (c.extent.ensures.sectors i) (c.extent.ensures.last i) c.args.sector))
    ∙ sym (kept-good c.args.ecc.now c.args.course.now _ c.args.sector (sym c.is_gone.ensures ∙ c.if-is_gone.false))
