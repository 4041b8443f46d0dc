use Rattle.std.proofs.Common.{◌≡◌, [], take}
use Rattle.rs01_fakes.specs.Scripts.{coming_in}
use Rattle.rs01_fakes.proofs.scripts.place_of.Given as goal

abbrev pub invariant-loop-place : goal.invariant-loop-place
invariant-loop-place l = coming_in (take l.place l.pending) l.sector ≡ []
