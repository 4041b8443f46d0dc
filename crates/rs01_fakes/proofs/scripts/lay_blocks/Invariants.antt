use Rattle.std.proofs.Common.{◌≡◌, ℕ}
use Rattle.rs01_fakes.specs.Scripts.{steady_in}
use Rattle.rs01_fakes.specs.ScriptDrive.{lay_image}
use Rattle.rs01_fakes.proofs.scripts.lay_blocks.Given as goal

abbrev pub invariant-loop-sector : goal.invariant-loop-sector
invariant-loop-sector l = (other : ℕ) → steady_in l.kept other ≡ lay_image (steady_in l.initial.kept) l.image l.sector other
