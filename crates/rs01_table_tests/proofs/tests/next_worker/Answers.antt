use Rattle.std.proofs.Common.{subst}
use Rattle.rs01_table.specs.Seats.{AreFree, id_of}
use Rattle.rs01_table.proofs.SeatLemmas.{free-last}
use Rattle.rs01_table_tests.proofs.tests.next_worker.Goals as goal

pub returns-in-Some-clause-free : goal.returns-in-Some-clause-free
returns-in-Some-clause-free c =
    let id = id_of c.args.table.now in
    (free-last id c.pop.new.self.items c.in-Some.worker (subst (AreFree id) c.in-Some.ensures.items c.requires.free)).0

pub returns-in-Some-clause-worker : goal.returns-in-Some-clause-worker
returns-in-Some-clause-worker c =
    let id = id_of c.args.table.now in
    (free-last id c.pop.new.self.items c.in-Some.worker (subst (AreFree id) c.in-Some.ensures.items c.requires.free)).1
