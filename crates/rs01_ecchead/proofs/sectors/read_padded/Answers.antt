use Rattle.std.proofs.Common.{◌≡◌, ◌∙◌, ◌-◌, length, arith}
use Rattle.rs01_outside.specs.Files.{bytes_of}
use Rattle.rs01_lists.proofs.Padding.{filled}
use Rattle.rs01_ecchead.proofs.Parts.{front_and_zeros}
use Rattle.rs01_ecchead.proofs.sectors.read_padded.Goals as goal

pub returns-clause-bytes : goal.returns-clause-bytes
returns-clause-bytes g c = λ t.
    let split = c.split_at_mut-front.ensures in
    let room : length c.split_at_mut-front.result.1.now ≡ length c.args.into.now - c.args.count = omega arith in
    front_and_zeros (bytes_of (g.D.Desk.state c.args.desk.now).files c.args.name.now) c.read_piece.new.into c.fill.new.self c.args.at c.args.count (length c.args.into.now)
    (omega arith) (c.in_ok-read_piece.ensures.filled t) (c.read_piece.auto.into ∙ split.front_len)
    (filled c.fill.new.self _ _ room (c.fill.ensures.after (λ y same. same)))
