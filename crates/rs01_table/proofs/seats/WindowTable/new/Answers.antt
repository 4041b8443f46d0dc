use Rattle.std.proofs.Common.{arith, rules, ◌≡◌, ℕ, ◌∙◌}
use mathlib.Core.Option.{some}
use lib.ListN.{get_elem?}
use Rattle.rs01_table.specs.declared.seats.Worker.{Worker}
use Rattle.rs01_table.specs.Views.{worker_first}
use Rattle.rs01_table.proofs.SeatLemmas.{free-first, gathered-first}
use Rattle.rs01_table.proofs.EndLemmas.{opens}
use Rattle.rs01_table.proofs.seats.WindowTable.new.Goals as goal

pub vacant-requires : goal.vacant-requires
vacant-requires g c = opens g.T.LayerTask.fit g.T.LayerTask.value c.args.slots (omega arith)

pub returns : goal.returns
returns g c =
    let id = c.in_ok-table.table.shared.table_id in
    let workers = c.in_ok-workers.workers.items in
    let same : c.in_ok-table.seat.table_id ≡ id = search rules in
    let each : (k : ℕ) (w : Worker g.row.T.Denot) → get_elem? workers k ≡ some w → (w.seat.table_id ≡ id) × ((j : ℕ) × (w.seat.me.0 ≡ worker_first j))
    = (λ k w e. let r = c.in_ok-workers.ensures.each k w e in (r.0 ∙ same, (k, r.1))) in
    record {
      slots_are = search rules;
      mine = search rules;
      posted = search rules;
      is_open = search rules;
      workers_are = search rules;
      count = c.in_ok-workers.ensures.count;
      free = free-first id workers each;
      none_given = gathered-first id workers each;
    }
