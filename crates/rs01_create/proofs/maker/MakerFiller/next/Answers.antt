use Rattle.std.proofs.Common.{refl}
use Rattle.rs01_create.proofs.Givings.{gives_list, stops}
use Rattle.rs01_create.proofs.maker.MakerFiller.next.Goals as goal

pub returns-clause-given : goal.returns-clause-given
returns-clause-given g c =
    gives_list c.next_layer.result _ c.args.self.now.image.now c.args.self.now.plan c.args.self.now.course.now c.next_layer.new.course c.next_layer.ensures.kept.0 c.next_layer.ensures.given

pub returns-clause-halted : goal.returns-clause-halted
returns-clause-halted g c =
    stops c.next_layer.result _ _ c.requires c.next_layer.ensures.reads refl refl refl refl c.next_layer.ensures.kept.0 c.next_layer.ensures.stops
