use Rattle.rs01_turns.proofs.Times.{asks-few}
use Rattle.rs01_turns.proofs.rest.asks_are_few.Goals as goal

pub returns : goal.returns
returns c = asks-few
