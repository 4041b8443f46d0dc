use Rattle.std.proofs.Common.{arith}
use Rattle.rs01_table.proofs.KeepLemmas.{claims}
use Rattle.rs01_table.proofs.seats.WindowTable.claim.Goals as goal

pub load-requires : goal.load-requires
load-requires g c = (c.requires.mine, omega arith, claims g.T.LayerTask.fit g.T.LayerTask.value c.args.self.now.table.shared.table_id.slots c.args.seat.now.id c.args.seat.now.me c.requires.posts c.requires.unclaimed c.requires.room)
