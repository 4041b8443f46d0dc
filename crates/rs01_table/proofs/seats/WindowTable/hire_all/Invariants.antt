use Rattle.std.proofs.Common.{◌≡◌, ℕ, ◌-◌, ◌≤◌, ◌<◌, length, []}
use mathlib.Core.Option.{some}
use lib.ListN.{get_elem?}
use Rattle.rs01_table.specs.Views.{poster_with, worker_first}
use Rattle.rs01_table.proofs.seats.WindowTable.hire_all.Given as goal

abbrev pub invariant-loop-i : goal.invariant-loop-i
invariant-loop-i g l =
    (l.i ≤ l.count) × (l.count < 4294967296) × (l.seat.table_id ≡ l.fn.seat.table_id) × (l.seat.me ≡ (poster_with l.i, [])) × (length l.workers.items ≡ l.i)
    × ((k : ℕ) (w : _) → get_elem? l.workers.items k ≡ some w → (w.seat.table_id ≡ l.fn.seat.table_id) × (w.seat.me.0 ≡ worker_first k))

abbrev pub decreases-loop-i : goal.decreases-loop-i
decreases-loop-i g l = l.count - l.i
