use Rattle.std.proofs.Common.{◌∙◌, ◌+◌, ◌≤◌, ap, refl, arith, Ok}
use Rattle.rs01_adaptive.proofs.NextLemmas.{goes_done, goes_given, goes_stopped, window_few}
use Rattle.rs01_adaptive.proofs.engine.EngineBoxDynDriveFiller.next.Goals as goal

pub overflow_add-self : goal.overflow_add-self
overflow_add-self g c =
    let few : c.args.self.now.window ≤ 16777216 = window_few _ c.requires.sound in
    omega (arith, few)

pub returns-in-Ok-Some-clause-leads : goal.returns-in-Ok-Some-clause-leads
returns-in-Ok-Some-clause-leads g c = (
  refl,
  refl,
  refl,
  refl,
  refl,
  (goes_given c.args.self.now.setup.now c.args.self.now.course.now c.next_input.new.course _ _ (g.D.Desk.state c.args.self.now.desk.now) (g.D.Desk.state c.next_input.new.desk)
      c.args.self.now.noted.now c.args.self.now.window (c.args.self.now.window + 1) c.in-Ok-Some.input c.next_input.result (c.in-Ok-Some.is ∙ ap Ok c.in-Ok-Some.field-0-is)
      c.requires c.next_input.ensures refl).along,
)

pub returns-in-Ok-None-clause-leads : goal.returns-in-Ok-None-clause-leads
returns-in-Ok-None-clause-leads g c = (
  refl,
  refl,
  refl,
  refl,
  refl,
  (goes_done c.args.self.now.setup.now c.args.self.now.course.now c.next_input.new.course _ _ (g.D.Desk.state c.args.self.now.desk.now) (g.D.Desk.state c.next_input.new.desk)
      c.args.self.now.noted.now c.args.self.now.window c.next_input.result (c.in-Ok-None.is ∙ ap Ok c.in-Ok-None.field-0-is) c.requires c.next_input.ensures).0.along,
)

pub returns-in-Err-clause-leads : goal.returns-in-Err-clause-leads
returns-in-Err-clause-leads g c = (
  refl,
  refl,
  refl,
  refl,
  refl,
  (goes_stopped c.args.self.now.setup.now c.args.self.now.course.now c.next_input.new.course _ _ (g.D.Desk.state c.args.self.now.desk.now) (g.D.Desk.state c.next_input.new.desk)
      c.args.self.now.noted.now c.args.self.now.window _ c.next_input.result c.in-Err.is c.requires c.next_input.ensures).0.along,
)

pub returns-in-Ok-Some-clause-going : goal.returns-in-Ok-Some-clause-going
returns-in-Ok-Some-clause-going g c =
    (goes_given c.args.self.now.setup.now c.args.self.now.course.now c.next_input.new.course _ _ (g.D.Desk.state c.args.self.now.desk.now) (g.D.Desk.state c.next_input.new.desk)
    c.args.self.now.noted.now c.args.self.now.window (c.args.self.now.window + 1) c.in-Ok-Some.input c.next_input.result (c.in-Ok-Some.is ∙ ap Ok c.in-Ok-Some.field-0-is)
    c.requires c.next_input.ensures refl).going

pub returns-in-Ok-None-clause-done : goal.returns-in-Ok-None-clause-done
returns-in-Ok-None-clause-done g c =
    let done =
    goes_done c.args.self.now.setup.now c.args.self.now.course.now c.next_input.new.course _ _ (g.D.Desk.state c.args.self.now.desk.now) (g.D.Desk.state c.next_input.new.desk)
    c.args.self.now.noted.now c.args.self.now.window c.next_input.result (c.in-Ok-None.is ∙ ap Ok c.in-Ok-None.field-0-is) c.requires c.next_input.ensures in
    (done.0.gave, done.1)

pub returns-in-Err-clause-halted : goal.returns-in-Err-clause-halted
returns-in-Err-clause-halted g c =
    let stopped =
    goes_stopped c.args.self.now.setup.now c.args.self.now.course.now c.next_input.new.course _ _ (g.D.Desk.state c.args.self.now.desk.now) (g.D.Desk.state c.next_input.new.desk)
    c.args.self.now.noted.now c.args.self.now.window _ c.next_input.result c.in-Err.is c.requires c.next_input.ensures in
    (stopped.0.gave, stopped.1)
