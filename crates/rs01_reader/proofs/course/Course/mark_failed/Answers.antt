use Rattle.std.proofs.Common.{◌∙◌, ap}
use Rattle.rs01_states.specs.Sparing.{is_unread, state_of}
use Rattle.rs01_reader.specs.Courses.{CourseSeen}
use Rattle.rs01_reader.proofs.WholeLemmas.{failed-whole}
use Rattle.rs01_reader.proofs.course.Course.mark_failed.Goals as goal

pub invariant_of-self : goal.invariant_of-self
invariant_of-self c =
    failed-whole _ _ _ _ _ _ c.args.sector c.args.fate c.self.invariant (ap (λ (v : CourseSeen). is_unread (state_of v.states c.args.sector)) c.self.view_is ∙ c.requires)
    c.mark_failed.ensures.after c.take.ensures
