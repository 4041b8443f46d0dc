use Rattle.std.proofs.Common.{ap, sym}
use Rattle.rs01_rack.specs.State.{rack_state}
use Rattle.rs01_adaptive.proofs.TakingLemmas.{all_given, all_read}
use Rattle.rs01_adaptive.proofs.working.work_windows.Goals as goal

pub returns : goal.returns
returns g c =
    let w = c.work_all.new.windows in
    let leads = c.work_all.ensures.leads in
    all_given c.args.setup.now c.args.course.now w.course.now _ _ _ _ (g.D.Desk.state c.args.desk.now) (g.D.Desk.state w.desk.now) _ c.args.noted.now w.noted.now _ c.work_all.result
    (all_read c.args.setup.now w.setup.now c.args.course.now w.course.now _ _ (g.D.Desk.state c.args.desk.now) (g.D.Desk.state w.desk.now) c.args.noted.now w.noted.now w.window
    c.work_all.result leads.4 leads.5 c.work_all.ensures.finished c.work_all.ensures.stands)
    (c.course-1.given.1 (sym leads.2))
    (c.noted-1.given.1 (sym leads.3))
    (ap g.D.Desk.state (c.desk-1.given.1 (sym leads.1)))
    (λ i. rack_state (λ b. (goal.Drive-dyn g (b.vtable, b.value)).state b.value) (c.rack-1.given.1 (sym leads.0) i))
