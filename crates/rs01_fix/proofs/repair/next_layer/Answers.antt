use Rattle.std.specs.Prelude.{false}
use Rattle.std.proofs.Common.{arith}
use Rattle.rs01_fix.proofs.CourseLemmas.{gives_layer, gives_none, goes_read, if_none, if_some, next_later}
use Rattle.rs01_fix.proofs.repair.next_layer.Goals as goal

pub returns-in-Ok-clause-goes : goal.returns-in-Ok-clause-goes
returns-in-Ok-clause-goes g c =
    let new = g.D.Desk.state c.next_input.new.desk in
    goes_read c.args.found.now c.args.image.now c.args.ecc.now (g.D.Desk.state c.args.desk.now) new c.args.course.now c.next_input.new.batch false c.in-Ok.ensures.reads
    (next_later c.args.found.now c.args.image.now c.args.ecc.now new c.args.course.now.batch c.next_input.new.batch c.in-Ok.next c.in-Ok.ensures.given c.in-Ok.ensures.none)

pub returns-in-Err-clause-goes : goal.returns-in-Err-clause-goes
returns-in-Err-clause-goes g c =
    goes_read c.args.found.now c.args.image.now c.args.ecc.now (g.D.Desk.state c.args.desk.now) (g.D.Desk.state c.next_input.new.desk) c.args.course.now c.next_input.new.batch _ c.in-Err.ensures.reads
    (omega (arith, c.in-Err.ensures.stays))

pub returns-in-Ok-clause-given : goal.returns-in-Ok-clause-given
returns-in-Ok-clause-given g c =
    if_some c.in-Ok.next _ _ (λ input gives. gives_layer c.args.found.now c.args.image.now c.args.ecc.now (g.D.Desk.state c.args.desk.now) (g.D.Desk.state c.next_input.new.desk) c.args.course.now
    c.next_input.new.batch input c.requires c.in-Ok.ensures.reads gives) c.in-Ok.ensures.given

pub returns-in-Ok-clause-done : goal.returns-in-Ok-clause-done
returns-in-Ok-clause-done g c =
    if_none c.in-Ok.next _ _ (λ none. gives_none c.args.found.now c.args.image.now c.args.ecc.now (g.D.Desk.state c.args.desk.now) (g.D.Desk.state c.next_input.new.desk) c.args.course.now
    c.next_input.new.batch c.requires c.in-Ok.ensures.reads none) c.in-Ok.ensures.none
