use Rattle.std.proofs.Common.{length, length-drop, length-take, arith}
use Rattle.rs01_outside.specs.Files.{bytes_of}
use Rattle.rs01_lists.proofs.Padding.{filled}
use Rattle.rs01_ecchead.proofs.Parts.{read_is_piece}
use Rattle.rs01_ecchead.proofs.pieces.read_piece.Goals as goal

pub returns-clause-filled : goal.returns-clause-filled
returns-clause-filled g c = λ t.
    read_is_piece (bytes_of (g.D.Desk.state c.args.desk.now).files c.args.name.now) c.read_at.new.into c.fill.new.self c.args.at c.in_ok-count.count (length c.args.into.now)
    c.read_at.auto.into (c.in_ok-count.ensures.bytes t)
    (filled c.fill.new.self _ _ (simp (length-take, length-drop) (omega arith)) (c.fill.ensures.after (λ y same. same)))
