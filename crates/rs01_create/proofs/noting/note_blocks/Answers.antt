use Rattle.std.proofs.Common.{◌≡◌, ◌+◌, ◌-◌, ◌∙◌, ap, arith}
use Rattle.rs01_layers.specs.Sectors.{sector}
use Rattle.rs01_create.proofs.Gathering.{own_block}
use Rattle.rs01_create.proofs.noting.note_blocks.Goals as goal

pub loop-sector-preserved : goal.loop-sector-preserved
loop-sector-preserved c = λ image of are noted.
    let first = c.args.first in
    let s = c.loop-sector.sector in
    c.in_ok-note_sector.ensures image of
    (c.block_among-block.ensures
    ∙ own_block image first (c.args.past - first) (s - first) c.args.blocks.now are (omega (arith, c.loop-sector.auto.sector, c.loop-sector-test.true))
    ∙ ap (sector image) (let e : first + (s - first) ≡ s = omega (arith, c.loop-sector.auto.sector) in e))
    (c.loop-sector.invariant image of are noted)
