use Rattle.std.proofs.Common.{arith}
use Rattle.rs01_lists.proofs.Padding.{lengthened}
use Rattle.rs01_lists.proofs.bytes.push_zeros.Goals as goal

pub returns : goal.returns
returns c =
    lengthened c.args.out.now.items c.resize.new.self.items c.args.out.now.len c.in-Some.len c.args.count
    (omega (arith, c.type_inv.out)) (omega (arith, c.len.ensures, c.in-Some.ensures)) c.in_ok-resize.ensures.items
