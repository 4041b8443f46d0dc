use Rattle.std.proofs.Common.{refl}
use Rattle.rs01_fakes.proofs.Elsewhere.{failed-change, same-elsewhere}
use Rattle.rs01_fakes.proofs.memory_desk.MemoryDeskDesk.make.Goals as goal

pub returns-in-Err-clause-changes : goal.returns-in-Err-clause-changes
returns-in-Err-clause-changes c =
    let fault = c.fail-in-Err.ensures in
    record {
      state = failed-change _ _ _ refl (same-elsewhere _ _ _ c.in-Err.ensures.made) fault.counted fault.later refl;
      fails = λ marked. refl;
      marks = c.call.ensures.counted;
      faults = fault.counted;
    }
