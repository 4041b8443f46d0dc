use Rattle.std.proofs.Common.{refl}
use Rattle.std.specs.Prelude.{Some}
use Rattle.rs01_reader.proofs.CountLemmas.{counts-start}
use Rattle.rs01_reader.proofs.GiveLemmas.{looked-going, looked-leads, lowest-first, picks-none, picks-some, picks-stop, start-picks}
use Rattle.rs01_reader.proofs.giving.next_layer.Goals as goal

pub read_on-requires : goal.read_on-requires
read_on-requires g c = looked-going c.args.setup.now c.args.course.now c.next_settled.new.self _ _ c.requires c.in-None.ensures

pub returns-in-Some : goal.returns-in-Some
returns-in-Some g c = record {
  leads = looked-leads c.args.setup.now c.args.course.now c.next_settled.new.self _ _ _ c.in-Some.ensures.new_is;
  counts = counts-start c.args.setup.now _ _ (Some c.in-Some.layer) c.args.rack.now.counted;
  picked = start-picks c.args.setup.now c.args.course.now c.next_settled.new.self _ _ c.in-Some.layer c.requires c.in-Some.ensures;
  none = tt;
  first = λ k waits. (refl, lowest-first c.args.course.now c.next_settled.new.self c.in-Some.layer k c.in-Some.ensures waits);
  halted = tt;
}

pub returns-in-Ok-Some : goal.returns-in-Ok-Some
returns-in-Ok-Some g c =
    picks-some c.args.setup.now c.args.course.now c.next_settled.new.self c.read_on.new.course _ _ _ _ c.in-Ok-Some.field-0 c.in-Ok-Some.layer c.requires c.in-None.ensures c.in-Ok-Some.field-0-is c.in-Ok-Some.ensures

pub returns-in-Ok-None : goal.returns-in-Ok-None
returns-in-Ok-None g c =
    picks-none c.args.setup.now c.args.course.now c.next_settled.new.self c.read_on.new.course _ _ _ _ c.in-Ok-None.field-0 c.requires c.in-None.ensures c.in-Ok-None.field-0-is c.in-Ok-None.ensures

pub returns-in-Err : goal.returns-in-Err
returns-in-Err g c =
    picks-stop c.args.setup.now c.args.course.now c.next_settled.new.self c.read_on.new.course _ _ _ _ c.in-Err.stop c.requires c.in-None.ensures c.in-Err.ensures
