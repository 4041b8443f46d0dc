use Rattle.std.proofs.Common.{◌∙◌, ap, sym, subst, ℕ, ◌<◌}
use Rattle.std.specs.Prelude.{IfSome, Option}
use Rattle.std.proofs.Math.ListN.{set}
use Rattle.rs01_layers.specs.declared.shape.Shape.{Shape}
use Rattle.rs01_states.specs.Sparing.{Survey, is_unread, layer_count, newly_within, settled, state_of}
use Rattle.rs01_states.specs.declared.state.State.TheVariants.{Good}
use Rattle.rs01_linear.specs.declared.fate.Fate.TheVariants as fate
use Rattle.rs01_reader.specs.Courses.{CourseSeen}
use Rattle.rs01_reader.proofs.WholeLemmas.{newly-there, read-seen, read-whole}
use Rattle.rs01_reader.proofs.course.Course.mark_read.Goals as goal

pub take_read-requires-clause-layer : goal.take_read-requires-clause-layer
take_read-requires-clause-layer c =
    subst (λ (o : Option ℕ). IfSome o (λ layer. layer < c.layer_count-layers.result)) (sym c.mark_good-settled.ensures.came)
    (subst (λ (n : ℕ). IfSome (newly_within c.self.inside.states.shape c.args.sector c.self.inside.states.states c.mark_good-settled.new.self.states) (λ layer. layer < n)) (ap layer_count c.self.invariant.shape_same ∙ sym c.layer_count-layers.ensures)
    (newly-there c.self.inside.states.shape c.args.sector c.self.inside.states.states c.mark_good-settled.new.self.states))

pub invariant_of-self : goal.invariant_of-self
invariant_of-self c =
    read-whole _ _ _ _ _ _ c.args.sector _ _ fate.Read c.self.invariant (ap (λ (v : CourseSeen). is_unread (state_of v.states c.args.sector)) c.self.view_is ∙ c.requires)
    c.mark_good-settled.ensures.after c.mark_good-settled.ensures.came c.layer_count-layers.ensures c.take_read.ensures.len c.take_read.ensures.flags

pub returns-clause-after : goal.returns-clause-after
returns-clause-after c =
    read-seen _ _ _ c.args.sector c.self.view_is
    (ap (λ (v : Survey). v.states) c.mark_good-settled.ensures.after ∙ ap (λ (h : Option Shape). settled h (set c.self.inside.states.states c.args.sector Good)) c.self.invariant.shape_same)
