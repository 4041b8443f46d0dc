use Rattle.std.proofs.Common.{◌≡◌, ◌-◌, ◌++◌, replicate}
use Rattle.rs01_poly.specs.Code.{generator}
use Rattle.rs01_poly.proofs.generator.Given as goal

abbrev pub invariant-loop-j : goal.invariant-loop-j
invariant-loop-j l = l.into ≡ generator l.j ++ replicate (100 - l.j) 0
