use Rattle.std.proofs.Common.{arith}
use Rattle.rs01_table.proofs.KeepLemmas.{closes}
use Rattle.rs01_table.proofs.seats.WindowTable.shut.Goals as goal

pub fetch_or-requires : goal.fetch_or-requires
fetch_or-requires g c = (c.requires.mine, omega arith, closes g.T.LayerTask.fit g.T.LayerTask.value c.args.self.now.table.shared.table_id.slots c.args.seat.now.id c.args.seat.now.me c.requires.posts)
