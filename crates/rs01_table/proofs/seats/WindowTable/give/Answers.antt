use Rattle.std.proofs.Common.{rules, refl, ap, ◌∙◌}
use Rattle.rs01_table.specs.Views.{source}
use Rattle.rs01_table.proofs.seats.WindowTable.give.Goals as goal

pub back-requires-clause-has : goal.back-requires-clause-has
back-requires-clause-has g c κs lives = (
  record { ticket = c.args.ticket.number; input = source c.args.given },
  c.args.given,
  ap (λ m. m.0.got) c.lay.ensures.me ∙ c.requires.has.1,
  search rules,
  (refl, c.requires.right),
)
