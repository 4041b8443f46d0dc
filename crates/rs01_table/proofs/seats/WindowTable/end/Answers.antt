use Rattle.std.proofs.Common.{arith, sym, ap, ◌∙◌, ◌≡◌, List, length, ◌++◌, subst}
use Rattle.std.specs.Slots.{slots_items}
use Rattle.rs01_table.specs.declared.views.Gave.{Gave}
use Rattle.rs01_table.specs.Seats.{gathered}
use Rattle.rs01_table.specs.Ending.{AllLaid, AreCollected}
use Rattle.rs01_table.proofs.EndingLemmas.{closing, all_laid, ended}
use Rattle.rs01_table.proofs.seats.WindowTable.end.Goals as goal

pub collect-requires-clause-laid : goal.collect-requires-clause-laid
collect-requires-clause-laid g c =
    let taken = c.take_over_all.ensures in
    let alone = c.args.poster.alone in
    let v = c.take_over_all.new.seat.me.0 in
    let none_yet : length c.args.poster.seat.me.0.numbers ≡ 0 = ap length alone.0 in
    let all : length v.numbers ≡ v.workers = omega (arith, taken.numbers, c.requires.all, taken.same.3) in
    subst (λ k. AllLaid k (slots_items c.close_with.result.slots)) (sym c.args.poster.counts)
    (all_laid g.T.LayerTask.fit g.T.LayerTask.value c.args.poster.seat.me.0.posted (gathered c.args.workers.items) (slots_items c.close_with.result.slots)
    (closing g.T.LayerTask.fit g.T.LayerTask.value c.take_over_all.new.seat.id v _ (slots_items c.close_with.result.slots) c.args.poster.seat.me.0.posted (gathered c.args.workers.items)
    taken.same.0 taken.same.1 taken.same.2 (taken.given ∙ ap (λ (l : List Gave). l ++ gathered c.args.workers.items) alone.1) all c.close_with.ensures.values.2))

pub returns : goal.returns
returns g c =
    let taken = c.take_over_all.ensures in
    let alone = c.args.poster.alone in
    let v = c.take_over_all.new.seat.me.0 in
    let none_yet : length c.args.poster.seat.me.0.numbers ≡ 0 = ap length alone.0 in
    let all : length v.numbers ≡ v.workers = omega (arith, taken.numbers, c.requires.all, taken.same.3) in
    let results = c.in_ok-results.results.items in
    ended g.T.LayerTask.fit g.T.LayerTask.value c.args.poster.seat.me.0.posted (gathered c.args.workers.items) (slots_items c.close_with.result.slots) results
    (closing g.T.LayerTask.fit g.T.LayerTask.value c.take_over_all.new.seat.id v _ (slots_items c.close_with.result.slots) c.args.poster.seat.me.0.posted (gathered c.args.workers.items)
    taken.same.0 taken.same.1 taken.same.2 (taken.given ∙ ap (λ (l : List Gave). l ++ gathered c.args.workers.items) alone.1) all c.close_with.ensures.values.2)
    (c.in_ok-results.ensures.long ∙ c.args.poster.counts)
    (subst (λ k. AreCollected k (slots_items c.close_with.result.slots) results) c.args.poster.counts c.in_ok-results.ensures.collected)
