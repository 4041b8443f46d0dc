use Rattle.std.proofs.Common.{ap, arith, length}
use Rattle.std.specs.Prelude.{true}
use Rattle.std.proofs.lemmas.List.{length-replicate}
use Rattle.rs01_reader.proofs.WholeLemmas.{start-whole}
use Rattle.rs01_reader.proofs.course.Course.new.Goals as goal

pub invariant_of-result : goal.invariant_of-result
invariant_of-result c =
    start-whole c.args.shape _ _ _ c.args.fates.items c.in_ok-states.ensures.start c.requires.shape (omega (arith, c.in_ok-states.ensures.len, c.len-sectors.ensures))
    (let made = ap length c.in_ok-unread.ensures in let all = length-replicate c.len-sectors.result true in omega (arith, c.take_found.ensures.len, made, all, c.len-sectors.ensures))
    (λ k below. c.take_found.ensures.flags k (omega (arith, below, c.len-sectors.ensures)))
    c.requires.few
