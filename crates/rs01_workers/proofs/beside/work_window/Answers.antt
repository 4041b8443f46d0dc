use Rattle.std.proofs.Common.{◌≡◌, ◌++◌, ◌∷◌, [], sym, ◌∙◌, subst}
use Rattle.rs01_table.specs.Seats.{AreFree, HaveNone, id_of}
use Rattle.rs01_table.proofs.SeatLemmas.{free-last, none-more}
use Rattle.rs01_workers.proofs.beside.work_window.Goals as goal

pub beside-filled-requires-clause-own : goal.beside-filled-requires-clause-own
beside-filled-requires-clause-own g c κs within =
    let id = id_of c.in-Ok.seats.table in
    let items : c.in-Ok.seats.workers.items ≡ c.pop.new.self.items ++ c.in-Some.own ∷ [] = c.in-Some.ensures.items in
    (free-last id c.pop.new.self.items c.in-Some.own (subst (AreFree id) items c.in-Ok.ensures.free)).1

pub beside-filled-requires-clause-others : goal.beside-filled-requires-clause-others
beside-filled-requires-clause-others g c κs within =
    let id = id_of c.in-Ok.seats.table in
    let items : c.in-Ok.seats.workers.items ≡ c.pop.new.self.items ++ c.in-Some.own ∷ [] = c.in-Some.ensures.items in
    (free-last id c.pop.new.self.items c.in-Some.own (subst (AreFree id) items c.in-Ok.ensures.free)).0

pub gather-requires-clause-none : goal.gather-requires-clause-none
gather-requires-clause-none g c κs within =
    let id = id_of c.in-Ok.seats.table in
    let own = c.beside-filled.ensures.own in
    subst (HaveNone id) (sym c.push_reserved.ensures.items) (none-more id c.beside-filled.new.others.items c.beside-filled.new.own c.beside-filled.ensures.others.none own.0 own.1)
