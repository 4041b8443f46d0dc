use Rattle.rs01_rack.proofs.Tries.{InVain}
use Rattle.rs01_rack.proofs.asking.try_box.Given as goal

abbrev pub invariant-loop-failed : goal.invariant-loop-failed
invariant-loop-failed g l =
    InVain l.sector l.failed
    ((goal.Drive-dyn g (l.initial.drive.vtable, l.initial.drive.value)).state l.initial.drive.value)
    ((goal.Drive-dyn g (l.drive.vtable, l.drive.value)).state l.drive.value)
