use Rattle.std.proofs.Common.{◌∷◌, List, ℕ, Some, ap, ◌∙◌}
use Rattle.rs01_table.specs.declared.given.Given.TheVariants.{Left}
use Rattle.rs01_table.specs.Views.{Slot, lifted}
use Rattle.rs01_table.proofs.seats.WindowTable.try_take.Goals as goal

pub lift-requires-clause-has : goal.lift-requires-clause-has
lift-requires-clause-has g c κs lives =
    let r = c.look-word.ensures.came c.if-ticket-word.true in
    let t = c.args.ticket.number in
    let worker = c.args.worker.now in
    (r.0, ap (λ m. m.1) r.2 ∙ ap (λ (l : List (ℕ × Slot)). (t, Some (Left r.0)) ∷ l) (worker.has ∙ ap lifted c.requires.ticket.1))
