use Rattle.std.proofs.Common.{rules, ◌≡◌, ◌++◌, ◌∷◌, [], length, ap, sym, ◌∙◌, subst, length-append}
use Rattle.rs01_table.specs.Seats.{AreFree, HaveNone, id_of}
use Rattle.rs01_table.proofs.SeatLemmas.{free-last, none-more}
use Rattle.rs01_workers.proofs.beside.+beside+fn-beside-join_mut+arg3.Goals as goal

pub join_mut-filled-requires-after_bounds : goal.join_mut-filled-requires-after_bounds
join_mut-filled-requires-after_bounds g t c κs within =
    let id = id_of c.args.table.now in
    let items : c.args.others.now.items ≡ c.pop.new.self.items ++ c.in-Some.other ∷ [] = c.in-Some.ensures.items in
    let free = free-last id c.pop.new.self.items c.in-Some.other (subst (AreFree id) items c.requires.others) in
    let mine = free.1 in
    let rest : AreFree id c.pop.new.self.items = free.0 in
    search rules

pub returns-clause-others : goal.returns-clause-others
returns-clause-others g t c =
    let id = id_of c.args.table.now in
    let items : c.args.others.now.items ≡ c.pop.new.self.items ++ c.in-Some.other ∷ [] = c.in-Some.ensures.items in
    let long = ap length items ∙ length-append c.pop.new.self.items (c.in-Some.other ∷ []) in
    let more = c.push_reserved.ensures.items in
    record {
      count = search rules;
      room = search rules;
      none = subst (HaveNone id) (sym more) (none-more id _ _ (search rules) (search rules) (search rules));
    }
