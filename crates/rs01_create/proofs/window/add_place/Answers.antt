use Rattle.std.proofs.Common.{◌≡◌, ◌/◌, length, arith}
use Rattle.rs01_outside.specs.Files.{bytes_of}
use Rattle.rs01_create.proofs.Pieces.{grow_by, longer_by}
use Rattle.rs01_create.proofs.window.add_place.Goals as goal

pub returns-clause-grown : goal.returns-clause-grown
returns-clause-grown g c = longer_by _ c.args.window.now.items c.push_place.new.window.items c.in_ok-push_place.ensures

pub returns-clause-read : goal.returns-clause-read
returns-clause-read g c = λ t of.
    let width : length c.args.buffer.now / 2048 ≡ length c.args.window.now.items = omega (arith, c.requires.buffer) in
    grow_by (bytes_of (g.D.Desk.state c.args.desk.now).files c.args.image.now) _ c.args.plan.now.shape.parity c.args.first c.args.place (length c.args.buffer.now / 2048)
    c.args.window.now.items c.push_place.new.window.items width (c.in_ok-len.ensures.read t of) c.in_ok-push_place.ensures
