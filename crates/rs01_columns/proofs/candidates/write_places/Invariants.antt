use Rattle.rs01_columns.specs.Layer.{SameOutside}
use Rattle.rs01_columns.proofs.candidates.write_places.Given as goal

abbrev pub invariant-loop-i : goal.invariant-loop-i
invariant-loop-i l = SameOutside l.initial.blocks l.blocks l.erased
