use Rattle.std.proofs.Common.{◌≡◌, take}
use Rattle.std.specs.List.{flat_map}
use Rattle.rs01_create.specs.Settling.{bytes_in}
use Rattle.rs01_create.proofs.settling.parity_of.Given as goal

abbrev pub invariant-loop-i : goal.invariant-loop-i
invariant-loop-i l = l.bytes.items ≡ flat_map bytes_in (take l.i l.results.outs)
