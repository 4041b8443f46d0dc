use Rattle.std.proofs.Common.{◌≡◌, ℕ}
use Rattle.rs01_demo.specs.Generator.{value_at}
use Rattle.rs01_demo.proofs.GeneratorLemmas.{Filled}
use Rattle.rs01_demo.proofs.generator.fill.Given as goal

abbrev pub invariant-loop-place : goal.invariant-loop-place
invariant-loop-place l = (number from : ℕ) → l.value ≡ value_at number from → Filled number from l.place l.last l.into
