use Rattle.std.proofs.Common.{◌≡◌, ap, arith, refl}
use Rattle.std.specs.Prelude.{false, true}
use Rattle.rs01_layers.specs.declared.extent.Extent.{Extent}
use Rattle.rs01_turns.proofs.Turning.{next-unread}
use Rattle.rs01_outside.proofs.States.{works-changes}
use Rattle.rs01_reader.proofs.CountLemmas.{works-start}
use Rattle.rs01_reader.proofs.AskLemmas.{ask-goes-on, asks-medium, next-inside, only-asked, put-by, put-if-altered, put-if-unreadable}
use Rattle.rs01_reader.proofs.asking.ask_next.Goals as goal

pub ask_sector-asked-requires-clause-inside : goal.ask_sector-asked-requires-clause-inside
ask_sector-asked-requires-clause-inside g c =
    let inside = next-inside _ _ c.args.sector _ c.requires.next c.requires.ready.all in
    let same : c.extent-extent.result.sectors ≡ c.args.setup.now.medium.now.extent.sectors = ap (λ (e : Extent). e.sectors) c.extent-extent.ensures in
    omega (arith, inside, same)

pub ask_sector-asked-requires-clause-recorded : goal.ask_sector-asked-requires-clause-recorded
ask_sector-asked-requires-clause-recorded g c = λ x is.
    let inside = next-inside _ _ c.args.sector _ c.requires.next c.requires.ready.all in
    let all = c.sums.ensures.all x is in
    omega (arith, inside, all)

pub mark-settled-requires : goal.mark-settled-requires
mark-settled-requires g c = next-unread _ _ c.args.sector c.requires.next

pub put_sector-requires : goal.put_sector-requires
put_sector-requires g c =
    let inside = next-inside _ _ c.args.sector _ c.requires.next c.requires.ready.all in
    let same : c.extent-extent.result.sectors ≡ c.args.setup.now.medium.now.extent.sectors = ap (λ (e : Extent). e.sectors) c.extent-extent.ensures in
    omega (arith, inside, same)

pub returns-in-Ok : goal.returns-in-Ok
returns-in-Ok g c =
    let setup = c.args.setup.now in
    let asked = c.ask_sector-asked.result in
    let block = c.ask_sector-asked.new.into in
    let asks = asks-medium setup.medium.now c.extent-extent.result _ c.args.sector setup.tries block asked _ _ c.extent-extent.ensures c.sums.ensures.sums c.ask_sector-asked.ensures.asked in
    record {
      leads = ask-goes-on setup c.args.course.now c.mark-settled.new.self _ _ _ _ c.args.sector block asked c.requires.ready c.requires.next c.mark-settled.ensures.after asks c.ask_sector-asked.ensures.cause c.ask_sector-asked.array_long
          (put-by setup c.args.course.now c.mark-settled.new.self _ _ _ _ c.extent-extent.result c.args.sector block asked c.put_sector.result c.in-Read.is c.extent-extent.ensures c.put_sector.ensures.only c.put_sector.ensures.put);
      counts = record { works = works-changes c.args.setup.now.image.now _ _ false c.in-Ok.ensures.only; lasts = asks.lasts };
      only = only-asked c.args.course.now c.mark-settled.new.self c.args.sector asked c.mark-settled.ensures.after;
      went = record { asked = asked; course_is = c.mark-settled.ensures.after; settled_is = c.mark-settled.ensures.settled };
      halted = tt;
    }

pub returns-in-Err : goal.returns-in-Err
returns-in-Err g c =
    let setup = c.args.setup.now in
    let asked = c.ask_sector-asked.result in
    let block = c.ask_sector-asked.new.into in
    let asks = asks-medium setup.medium.now c.extent-extent.result _ c.args.sector setup.tries block asked _ _ c.extent-extent.ensures c.sums.ensures.sums c.ask_sector-asked.ensures.asked in
    record {
      leads = ask-goes-on setup c.args.course.now c.mark-settled.new.self _ _ _ _ c.args.sector block asked c.requires.ready c.requires.next c.mark-settled.ensures.after asks c.ask_sector-asked.ensures.cause c.ask_sector-asked.array_long
          (put-by setup c.args.course.now c.mark-settled.new.self _ _ _ _ c.extent-extent.result c.args.sector block asked c.put_sector.result c.in-Read.is c.extent-extent.ensures c.put_sector.ensures.only c.put_sector.ensures.put);
      counts = record { works = works-changes c.args.setup.now.image.now _ _ true c.in-Err.ensures.only; lasts = asks.lasts };
      only = only-asked c.args.course.now c.mark-settled.new.self c.args.sector asked c.mark-settled.ensures.after;
      went = tt;
      halted = record { stop_is = refl; rose = c.in-Err.ensures.only.rose refl };
    }

pub returns-in-Unreadable : goal.returns-in-Unreadable
returns-in-Unreadable g c =
    let setup = c.args.setup.now in
    let asked = c.ask_sector-asked.result in
    let block = c.ask_sector-asked.new.into in
    let asks = asks-medium setup.medium.now c.extent-extent.result _ c.args.sector setup.tries block asked _ _ c.extent-extent.ensures c.sums.ensures.sums c.ask_sector-asked.ensures.asked in
    record {
      leads = ask-goes-on setup c.args.course.now c.mark-settled.new.self _ _ _ _ c.args.sector block asked c.requires.ready c.requires.next c.mark-settled.ensures.after asks c.ask_sector-asked.ensures.cause c.ask_sector-asked.array_long
          (put-if-unreadable _ _ c.args.sector block asked c.in-Unreadable.is refl);
      counts = record { works = works-start c.args.setup.now.image.now _; lasts = asks.lasts };
      only = only-asked c.args.course.now c.mark-settled.new.self c.args.sector asked c.mark-settled.ensures.after;
      went = record { asked = asked; course_is = c.mark-settled.ensures.after; settled_is = c.mark-settled.ensures.settled };
      halted = tt;
    }

pub returns-in-Altered : goal.returns-in-Altered
returns-in-Altered g c =
    let setup = c.args.setup.now in
    let asked = c.ask_sector-asked.result in
    let block = c.ask_sector-asked.new.into in
    let asks = asks-medium setup.medium.now c.extent-extent.result _ c.args.sector setup.tries block asked _ _ c.extent-extent.ensures c.sums.ensures.sums c.ask_sector-asked.ensures.asked in
    record {
      leads = ask-goes-on setup c.args.course.now c.mark-settled.new.self _ _ _ _ c.args.sector block asked c.requires.ready c.requires.next c.mark-settled.ensures.after asks c.ask_sector-asked.ensures.cause c.ask_sector-asked.array_long
          (put-if-altered _ _ c.args.sector block asked c.in-Altered.is refl);
      counts = record { works = works-start c.args.setup.now.image.now _; lasts = asks.lasts };
      only = only-asked c.args.course.now c.mark-settled.new.self c.args.sector asked c.mark-settled.ensures.after;
      went = record { asked = asked; course_is = c.mark-settled.ensures.after; settled_is = c.mark-settled.ensures.settled };
      halted = tt;
    }
