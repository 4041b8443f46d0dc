use Rattle.std.proofs.Common.{◌≡◌, ◌∷◌, [], false}
use Rattle.rs01_table.proofs.seats.WindowTable.take.Given as goal

abbrev pub invariant-loop : goal.invariant-loop
invariant-loop g l =
    (goal.iterator-loop g).can_next l.iterator' × (goal.iterator-loop g).is_finite l.iterator'
    × (l.worker.seat.table_id ≡ l.fn.worker.seat.table_id) × (l.worker.seat.me.0.held ≡ l.fn.ticket.number ∷ []) × (l.worker.seat.me.0.got ≡ []) × (l.worker.seat.me.0.over ≡ false)
    × (l.worker.seat.me.0.given ≡ l.fn.worker.seat.me.0.given)
