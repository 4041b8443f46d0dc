-- How a window begins.
use Rattle.std.specs.Prelude.{◌≡◌, ℕ, [], length, false}
use Rattle.rs01_table.specs.declared.seats.Seats.{Seats}
use Rattle.rs01_table.specs.Seats.{id_of, slots_of, IsPosterOf, posted_by, is_closed, workers_of, AreFree, gathered}

-- it has so many slots and workers, nothing is posted or given, and it isn't closed
pub record IsNew {T : Type 0} (slots workers : ℕ) (seats : Seats T) : Type 0 where
  pub slots_are : slots_of seats.table ≡ slots
  pub mine : IsPosterOf seats.table seats.poster
  pub posted : posted_by seats.poster ≡ []
  pub is_open : is_closed seats.poster ≡ false
  pub workers_are : workers_of seats.poster ≡ workers
  pub count : length seats.workers.items ≡ workers
  pub free : AreFree (id_of seats.table) seats.workers.items
  pub none_given : gathered seats.workers.items ≡ []
