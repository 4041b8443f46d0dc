use Rattle.std.proofs.Common.{arith}
use Rattle.rs01_table.proofs.KeepLemmas.{splits}
use Rattle.rs01_table.proofs.seats.WindowTable.hire.Goals as goal

pub split_seat-requires : goal.split_seat-requires
split_seat-requires g c = (c.requires.mine, omega arith, splits g.T.LayerTask.fit g.T.LayerTask.value c.args.seat.now.id c.args.seat.now.me.0 c.requires.posts (omega (arith, c.requires.few)))
