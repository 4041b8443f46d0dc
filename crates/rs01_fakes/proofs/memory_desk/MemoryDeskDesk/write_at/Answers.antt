use Rattle.std.proofs.Common.{refl}
use Rattle.rs01_fakes.proofs.Elsewhere.{failed-change, kept-elsewhere, same-elsewhere}
use Rattle.rs01_fakes.proofs.memory_desk.MemoryDeskDesk.write_at.Goals as goal

pub returns-then-write-clause-changes : goal.returns-then-write-clause-changes
returns-then-write-clause-changes c =
    let fault = c.fail.ensures in
    let others = kept-elsewhere c.args.self.now.marks.kept _ _ _ _ _ c.write_kept.ensures in
    record {
      state = failed-change _ _ _ refl others fault.counted fault.later refl;
      fails = λ marked. refl;
      marks = c.write.ensures.counted;
      faults = fault.counted;
    }

pub returns-in-Err-clause-changes : goal.returns-in-Err-clause-changes
returns-in-Err-clause-changes c =
    let fault = c.fail-in-Err.ensures in
    record {
      state = failed-change _ _ _ refl (same-elsewhere _ _ _ c.in-Err.ensures.done) fault.counted fault.later refl;
      fails = λ marked. refl;
      marks = c.write.ensures.counted;
      faults = fault.counted;
    }
