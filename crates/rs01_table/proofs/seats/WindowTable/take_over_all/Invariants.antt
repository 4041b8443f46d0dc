use Rattle.std.proofs.Common.{◌≡◌, ◌+◌, ◌++◌, length, [], true}
use Rattle.rs01_table.specs.Seats.{gathered, HaveNone, id_of}
use Rattle.rs01_table.proofs.seats.WindowTable.take_over_all.Given as goal

pub record Taking (g : goal.Over) (l : goal.Live-loop-worker g) : Type 0 where
  pub table : l.seat.table_id ≡ l.fn.seat.table_id
  pub posts : l.seat.me.0.posts ≡ true
  pub got : l.seat.me.0.got ≡ []
  pub posted : l.seat.me.0.posted ≡ l.fn.seat.me.0.posted
  pub count : l.seat.me.0.workers ≡ l.fn.seat.me.0.workers
  pub numbers : length l.seat.me.0.numbers + length l.workers.items ≡ length l.fn.seat.me.0.numbers + length l.fn.workers.items
  pub given : l.seat.me.0.given ++ gathered l.workers.items ≡ l.fn.seat.me.0.given ++ gathered l.fn.workers.items
  pub none : HaveNone (id_of l.fn.self) l.workers.items

abbrev pub invariant-loop-worker : goal.invariant-loop-worker
invariant-loop-worker g l = Taking g l

abbrev pub decreases-loop-worker : goal.decreases-loop-worker
decreases-loop-worker g l = length l.workers.items
