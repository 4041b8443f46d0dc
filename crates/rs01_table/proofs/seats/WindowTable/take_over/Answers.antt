use Rattle.std.proofs.Common.{arith, ap, ◌∙◌}
use Rattle.rs01_table.specs.Views.{lifted}
use Rattle.rs01_table.proofs.JoinLemmas.{joins}
use Rattle.rs01_table.proofs.seats.WindowTable.take_over.Goals as goal

pub join_seat-requires : goal.join_seat-requires
join_seat-requires g c = (c.requires.mine, c.requires.same, c.args.worker.has ∙ ap lifted c.requires.free, omega arith, joins g.T.LayerTask.fit g.T.LayerTask.value c.args.seat.now.id c.args.seat.now.me.0 c.args.worker.seat.id c.args.worker.seat.me.0 c.requires.posts.0 c.requires.posts.1 c.requires.free c.args.worker.works.1)
