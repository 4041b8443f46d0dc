use Rattle.std.proofs.Common.{◌-◌, ℕ, List}
use Rattle.rs01_layers.specs.Extents.{IsExtentOf}
use Rattle.rs01_create.specs.Surveyed.{AreSectors, IsNoted}
use Rattle.rs01_create.proofs.noting.note_blocks.Given as goal

abbrev pub invariant-loop-sector : goal.invariant-loop-sector
invariant-loop-sector l =
    (image : List ℕ) → IsExtentOf image l.extent → AreSectors image l.first (l.past - l.first) l.blocks → IsNoted image l.first l.initial.noted → IsNoted image l.sector l.noted
