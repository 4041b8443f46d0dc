use Rattle.std.proofs.Common.{◌≡◌, map, take}
use Rattle.rs01_fakes.specs.Scripts.{pending_for}
use Rattle.rs01_fakes.proofs.scripts.pending_for.Given as goal

abbrev pub invariant-loop-script : goal.invariant-loop-script
invariant-loop-script l = l.list.items ≡ map (pending_for l.sector) (take l.script-index l.scripts)
