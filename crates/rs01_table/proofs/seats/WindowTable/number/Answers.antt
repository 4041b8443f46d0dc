use Rattle.std.proofs.Common.{arith}
use Rattle.rs01_table.proofs.KeepLemmas.{draws}
use Rattle.rs01_table.proofs.seats.WindowTable.number.Goals as goal

pub fetch_add-requires : goal.fetch_add-requires
fetch_add-requires g c = (c.requires.mine, omega arith, draws g.T.LayerTask.fit g.T.LayerTask.value c.args.self.now.table.shared.table_id.slots c.args.seat.now.id c.args.seat.now.me c.requires.works.0 c.requires.works.1 c.requires.free.0 c.requires.free.1 c.requires.going)
