use Rattle.std.proofs.Common.{refl}
use Rattle.rs01_reader.proofs.EndLemmas.{can-read, gives-fails, gives-input, gives-none, gives-stop, picked-of}
use Rattle.rs01_reader.proofs.giving.next_input.Goals as goal

pub give_layer-requires : goal.give_layer-requires
give_layer-requires g c =
    let picked = picked-of c.args.setup.now c.args.course.now c.next_layer.new.course _ _ _ _ c.in-Ok-Some.field-0 c.in-Ok-Some.layer c.in-Ok-Some.field-0-is c.in-Ok-Some.ensures in
    can-read c.args.setup.now c.next_layer.new.course _ _ _ c.in-Ok-Some.layer picked.going picked.settled.there

pub returns-in-Ok : goal.returns-in-Ok
returns-in-Ok g c =
    gives-input c.args.setup.now c.args.course.now c.next_layer.new.course c.give_layer.new.course _ _ _ _ _ c.in-Ok-Some.field-0 c.in-Ok-Some.layer c.in-Ok.input _ c.requires
    c.in-Ok-Some.field-0-is c.in-Ok-Some.ensures c.in-Ok.ensures.reads refl c.in-Ok.ensures.gives

pub returns-in-Err-give_layer : goal.returns-in-Err-give_layer
returns-in-Err-give_layer g c =
    gives-fails c.args.setup.now c.args.course.now c.next_layer.new.course c.give_layer.new.course _ _ _ _ _ c.in-Ok-Some.field-0 c.in-Ok-Some.layer c.in-Err-give_layer.stop c.requires
    c.in-Ok-Some.field-0-is c.in-Ok-Some.ensures c.in-Err-give_layer.ensures.reads c.in-Err-give_layer.ensures.gives

pub returns-in-Ok-None : goal.returns-in-Ok-None
returns-in-Ok-None g c =
    gives-none c.args.setup.now c.args.course.now c.next_layer.new.course _ _ _ _ c.in-Ok-None.field-0 c.requires c.in-Ok-None.field-0-is c.in-Ok-None.ensures

pub returns-in-Err : goal.returns-in-Err
returns-in-Err g c = gives-stop c.args.setup.now c.args.course.now c.next_layer.new.course _ _ _ _ c.in-Err.stop c.requires c.in-Err.ensures
