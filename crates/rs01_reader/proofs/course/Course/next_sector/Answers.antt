use Rattle.std.proofs.Common.{◌∙◌, ap, sym, ℕ}
use Rattle.std.specs.Prelude.{Option}
use Rattle.rs01_turns.specs.Turns.{next_sector}
use Rattle.rs01_reader.specs.Courses.{CourseSeen}
use Rattle.rs01_reader.proofs.NextLemmas.{goes-is, starts-is}
use Rattle.rs01_reader.proofs.course.Course.next_sector.Goals as goal

pub returns-in-Some : goal.returns-in-Some
returns-in-Some c =
    c.goes_on.ensures ∙ goes-is _ _ c.in-Some.place c.self.invariant.flags
    ∙ ap (λ (p : Option ℕ). next_sector c.self.inside.states.states p) (sym c.in-Some.is)
    ∙ ap (λ (v : CourseSeen). next_sector v.states v.place) c.self.view_is

pub returns-in-None : goal.returns-in-None
returns-in-None c =
    c.new_turn.ensures ∙ starts-is _ _ c.self.invariant.flags
    ∙ ap (λ (p : Option ℕ). next_sector c.self.inside.states.states p) (sym c.in-None.is)
    ∙ ap (λ (v : CourseSeen). next_sector v.states v.place) c.self.view_is
