use Rattle.std.proofs.Common.{arith}
use Rattle.std.proofs.Common.{[]}
use Rattle.rs01_table.proofs.KeepLemmas.{posts}
use Rattle.rs01_table.proofs.seats.WindowTable.show.Goals as goal

pub fetch_add-requires : goal.fetch_add-requires
fetch_add-requires g c = (c.requires.mine, omega arith, posts g.T.LayerTask.fit g.T.LayerTask.value c.args.self.now.table.shared.table_id.slots c.args.seat.now.id c.args.seat.now.me c.requires.has.0 [] c.requires.has.1 c.requires.has.2 c.requires.posts c.requires.is_open c.requires.claimed)
