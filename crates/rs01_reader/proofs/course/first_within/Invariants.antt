use Rattle.rs01_reader.specs.Courses.{NoneWithin}
use Rattle.rs01_reader.proofs.course.first_within.Given as goal

abbrev pub invariant-loop-layer : goal.invariant-loop-layer
invariant-loop-layer l = NoneWithin l.states.shape l.states.states l.fn.from l.layer
