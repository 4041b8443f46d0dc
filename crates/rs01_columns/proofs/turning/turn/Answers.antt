use Rattle.rs01_columns.proofs.Riffles.{turned}
use Rattle.rs01_columns.proofs.turning.turn.Goals as goal

pub returns : goal.returns
returns c =
    turned c.args.square.now c.riffle.new.into c.riffle-2.new.into c.riffle-3.new.into c.riffle-4.new.into c.riffle.ensures c.riffle-2.ensures c.riffle-3.ensures c.riffle-4.ensures
