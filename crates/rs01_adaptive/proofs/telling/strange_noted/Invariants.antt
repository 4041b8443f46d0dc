use Rattle.std.proofs.Common.{◌≡◌, take}
use Rattle.rs01_adaptive.specs.Noting.{strange_noted}
use Rattle.rs01_adaptive.proofs.telling.strange_noted.Given as goal

abbrev pub invariant-loop-strange : goal.invariant-loop-strange
invariant-loop-strange l = l.list.items ≡ strange_noted (take l.strange-index l.noted)
