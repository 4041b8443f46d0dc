use Rattle.rs01_poly.specs.Code.{VanishesAtRoots}
use Rattle.rs01_columns.proofs.certificate.vanishes.Given as goal

abbrev pub invariant-loop-j : goal.invariant-loop-j
invariant-loop-j l = VanishesAtRoots l.word l.j
