use Rattle.std.proofs.Common.{refl}
use Rattle.rs01_adaptive.proofs.TakingLemmas.{failed_along, failed_halted, gather, settles_as, since_is, stopped_by, taken_along, taken_fewer, taken_finished, taken_going, worked_of}
use Rattle.rs01_adaptive.proofs.WindowLemmas.{can_take}
use Rattle.rs01_adaptive.proofs.engine.EngineBoxDynDriveWindowsCorrectTask.settle.Goals as goal

pub settle_results-requires : goal.settle_results-requires
settle_results-requires g c =
    can_take c.args.self.now.setup.now c.args.self.now.course.now _ (g.D.Desk.state c.args.self.now.desk.now) c.args.self.now.noted.now c.args.self.now.window c.args.results
    (worked_of _ c.args.results (gather _ _ c.requires.all c.requires.fit c.requires.values c.requires.last c.requires.full)
    (since_is _ _ c.args.self.now.course.now.kept_reads c.args.self.now.course.now.kept_writes (g.D.Desk.state c.args.self.now.desk.now) _ _ c.kept_reads-read_faults.ensures c.kept_writes.ensures c.in-None.is c.fault_since.ensures))

pub returns-in-Ok-clause-leads : goal.returns-in-Ok-clause-leads
returns-in-Ok-clause-leads g c = (
  refl,
  refl,
  refl,
  refl,
  refl,
  taken_along c.args.self.now.setup.now c.args.self.now.course.now _ (g.D.Desk.state c.args.self.now.desk.now) (g.D.Desk.state c.settle_results.new.desk)
      c.args.self.now.noted.now c.settle_results.new.noted c.args.self.now.window c.args.results _
      (gather _ _ c.requires.all c.requires.fit c.requires.values c.requires.last c.requires.full)
      (since_is _ _ c.args.self.now.course.now.kept_reads c.args.self.now.course.now.kept_writes (g.D.Desk.state c.args.self.now.desk.now) _ _ c.kept_reads-read_faults.ensures c.kept_writes.ensures c.in-None.is c.fault_since.ensures)
      (settles_as c.args.self.now.setup.now c.args.self.now.noted.now c.settle_results.new.noted (g.D.Desk.state c.args.self.now.desk.now) (g.D.Desk.state c.settle_results.new.desk) c.args.results _ _ c.in-Ok.is c.settle_results.ensures),
)

pub returns-in-Ok-clause-going : goal.returns-in-Ok-clause-going
returns-in-Ok-clause-going g c = λ more.
    taken_going c.args.self.now.setup.now c.args.self.now.course.now _ (g.D.Desk.state c.args.self.now.desk.now) (g.D.Desk.state c.settle_results.new.desk)
    c.args.self.now.noted.now c.settle_results.new.noted c.args.self.now.window c.args.results _
    (gather _ _ c.requires.all c.requires.fit c.requires.values c.requires.last c.requires.full)
    (since_is _ _ c.args.self.now.course.now.kept_reads c.args.self.now.course.now.kept_writes (g.D.Desk.state c.args.self.now.desk.now) _ _ c.kept_reads-read_faults.ensures c.kept_writes.ensures c.in-None.is c.fault_since.ensures)
    (settles_as c.args.self.now.setup.now c.args.self.now.noted.now c.settle_results.new.noted (g.D.Desk.state c.args.self.now.desk.now) (g.D.Desk.state c.settle_results.new.desk) c.args.results _ _ c.in-Ok.is c.settle_results.ensures) more

pub returns-in-Ok-clause-fewer : goal.returns-in-Ok-clause-fewer
returns-in-Ok-clause-fewer g c = λ more.
    taken_fewer c.args.self.now.setup.now c.args.self.now.course.now _ (g.D.Desk.state c.args.self.now.desk.now) (g.D.Desk.state c.settle_results.new.desk)
    c.args.self.now.noted.now c.settle_results.new.noted c.args.self.now.window c.args.results
    (gather _ _ c.requires.all c.requires.fit c.requires.values c.requires.last c.requires.full) more

pub returns-in-Ok-clause-finished : goal.returns-in-Ok-clause-finished
returns-in-Ok-clause-finished g c = λ over.
    taken_finished c.args.self.now.setup.now c.args.self.now.course.now _ (g.D.Desk.state c.args.self.now.desk.now) (g.D.Desk.state c.settle_results.new.desk)
    c.args.self.now.noted.now c.settle_results.new.noted c.args.self.now.window c.args.results _
    (gather _ _ c.requires.all c.requires.fit c.requires.values c.requires.last c.requires.full)
    (since_is _ _ c.args.self.now.course.now.kept_reads c.args.self.now.course.now.kept_writes (g.D.Desk.state c.args.self.now.desk.now) _ _ c.kept_reads-read_faults.ensures c.kept_writes.ensures c.in-None.is c.fault_since.ensures)
    (settles_as c.args.self.now.setup.now c.args.self.now.noted.now c.settle_results.new.noted (g.D.Desk.state c.args.self.now.desk.now) (g.D.Desk.state c.settle_results.new.desk) c.args.results _ _ c.in-Ok.is c.settle_results.ensures) over

pub returns-clause-leads : goal.returns-clause-leads
returns-clause-leads g c = (
  refl,
  refl,
  refl,
  refl,
  refl,
  failed_along c.args.self.now.setup.now c.args.self.now.course.now _ (g.D.Desk.state c.args.self.now.desk.now) (g.D.Desk.state c.settle_results.new.desk)
      c.args.self.now.noted.now c.settle_results.new.noted c.args.self.now.window c.args.results c.in-Err.stop
      (gather _ _ c.requires.all c.requires.fit c.requires.values c.requires.last c.requires.full)
      (since_is _ _ c.args.self.now.course.now.kept_reads c.args.self.now.course.now.kept_writes (g.D.Desk.state c.args.self.now.desk.now) _ _ c.kept_reads-read_faults.ensures c.kept_writes.ensures c.in-None.is c.fault_since.ensures)
      (settles_as c.args.self.now.setup.now c.args.self.now.noted.now c.settle_results.new.noted (g.D.Desk.state c.args.self.now.desk.now) (g.D.Desk.state c.settle_results.new.desk) c.args.results _ _ c.in-Err.is c.settle_results.ensures),
)

pub returns-clause-halted : goal.returns-clause-halted
returns-clause-halted g c =
    failed_halted c.args.self.now.setup.now c.args.self.now.course.now _ (g.D.Desk.state c.args.self.now.desk.now) (g.D.Desk.state c.settle_results.new.desk)
    c.args.self.now.noted.now c.settle_results.new.noted c.args.self.now.window c.args.results c.in-Err.stop
    (gather _ _ c.requires.all c.requires.fit c.requires.values c.requires.last c.requires.full)
    (settles_as c.args.self.now.setup.now c.args.self.now.noted.now c.settle_results.new.noted (g.D.Desk.state c.args.self.now.desk.now) (g.D.Desk.state c.settle_results.new.desk) c.args.results _ _ c.in-Err.is c.settle_results.ensures)

pub returns-in-Some-clause-halted : goal.returns-in-Some-clause-halted
returns-in-Some-clause-halted g c =
    stopped_by c.args.self.now.setup.now c.args.self.now.course.now _ (g.D.Desk.state c.args.self.now.desk.now) c.args.self.now.noted.now c.args.self.now.window c.args.results c.in-Some.stop
    (gather _ _ c.requires.all c.requires.fit c.requires.values c.requires.last c.requires.full)
    (since_is _ _ c.args.self.now.course.now.kept_reads c.args.self.now.course.now.kept_writes (g.D.Desk.state c.args.self.now.desk.now) _ _ c.kept_reads-read_faults.ensures c.kept_writes.ensures c.in-Some.is c.fault_since.ensures)
