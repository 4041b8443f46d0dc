use Rattle.std.proofs.Common.{◌∙◌, ap, sym}
use Rattle.rs01_linear.specs.declared.asking.Asked.{Asked}
use Rattle.rs01_reader.specs.Courses.{course_after}
use Rattle.rs01_reader.proofs.WholeLemmas.{failed-altered, failed-unreadable}
use Rattle.rs01_reader.proofs.course.Course.mark.Goals as goal

pub returns-in-Unreadable-clause-after : goal.returns-in-Unreadable-clause-after
returns-in-Unreadable-clause-after c =
    c.mark_failed.ensures ∙ failed-unreadable c.args.self.now c.args.sector ∙ ap (λ (a : Asked). course_after c.args.self.now c.args.sector a) (sym c.in-Unreadable.is)

pub returns-in-Altered-clause-after : goal.returns-in-Altered-clause-after
returns-in-Altered-clause-after c =
    c.mark_failed-in-Altered.ensures ∙ failed-altered c.args.self.now c.args.sector ∙ ap (λ (a : Asked). course_after c.args.self.now c.args.sector a) (sym c.in-Altered.is)
