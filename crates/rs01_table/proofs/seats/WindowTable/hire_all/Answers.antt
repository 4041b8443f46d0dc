use Rattle.std.proofs.Common.{arith, rules, sym, ap, ◌∙◌, ◌≡◌}
use lib.ListN.{get_elem?}
use Rattle.rs01_table.specs.Views.{worker_first, hired}
use Rattle.rs01_table.proofs.SumLemmas.{each_snoc}
use Rattle.rs01_table.proofs.seats.WindowTable.hire_all.Goals as goal

pub loop-i-preserved : goal.loop-i-preserved
loop-i-preserved g c = (
  omega arith,
  omega arith,
  search rules,
  search rules,
  search rules,
  (λ k w e. each_snoc (λ i u. (u.seat.table_id ≡ c.args.seat.now.table_id) × (u.seat.me.0 ≡ worker_first i)) c.loop-i.workers.items c.hire-worker.result c.loop-i.invariant.5
      (search rules, ap (λ m. m.0) c.hire-worker.ensures.worker ∙ ap (λ m. hired m.0) c.loop-i.invariant.3 ∙ ap worker_first (sym c.loop-i.invariant.4))
      k w (ap (λ l. get_elem? l k) (sym c.in_ok-push.ensures.items) ∙ e)),
)
