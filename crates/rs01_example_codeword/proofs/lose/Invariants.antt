use Rattle.rs01_poly.specs.Code.{AgreeOutside}
use Rattle.rs01_example_codeword.proofs.lose.Given as goal

-- the bytes at all other places are as before
abbrev pub invariant-loop-place : goal.invariant-loop-place
invariant-loop-place l = AgreeOutside l.initial.word l.word l.places
