use Rattle.std.proofs.Common.{refl}
use Rattle.rs01_create.proofs.Givings.{given}
use Rattle.rs01_create.proofs.giving.next_layer.Goals as goal

pub returns-clause-given : goal.returns-clause-given
returns-clause-given g c =
    given _ c.args.image.now c.args.plan.now c.read_ahead.new.window.items c.pop.new.self.items c.in-Some.blocks c.args.course.now _ c.in_ok-input.input
    c.in-Some.ensures.items c.in_ok-read_ahead.ensures.ahead c.in_ok-input.ensures.layer c.in_ok-input.ensures.parity c.in_ok-input.ensures.flags c.in_ok-input.ensures.blocks refl refl
