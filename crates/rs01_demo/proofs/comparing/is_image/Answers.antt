use Rattle.std.proofs.Common.{sym}
use Rattle.rs01_demo.proofs.StepLemmas.{found_long}
use Rattle.rs01_demo.proofs.comparing.is_image.Goals as goal

pub returns-then-not-branch-clause-same : goal.returns-then-not-branch-clause-same
returns-then-not-branch-clause-same g c = λ t.
    sym (found_long _ c.args.number c.args.sectors c.from.result c.in_ok-has_length.field-0 c.from.ensures (c.in_ok-has_length.ensures.long t) c.if-not-branch.true)
