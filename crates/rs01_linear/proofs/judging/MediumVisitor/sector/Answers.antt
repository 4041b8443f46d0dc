use Rattle.std.proofs.Common.{◌∙◌, ap}
use Rattle.rs01_linear.specs.Judged.{fate_by}
use Rattle.rs01_linear.specs.Left.{first_fate}
use Rattle.rs01_linear.specs.Medium.{known_of}
use Rattle.rs01_linear.proofs.JudgeLemmas.{fates_more, shown_fate}
use Rattle.rs01_linear.proofs.judging.MediumVisitor.sector.Goals as goal

pub returns-clause-keeps : goal.returns-clause-keeps
returns-clause-keeps c = λ image shown before y same.
    fates_more (first_fate (known_of c.args.self.now) y) c.args.sector c.fate_by.result c.args.kept.now.items _ (before y same)
    (c.fate_by.ensures ∙ ap fate_by c.judge.ensures
    ∙ shown_fate (known_of c.args.self.now) y image c.args.sector c.args.there c.args._len _ c.args.block.now c.sums.ensures.sums same shown)
    c.in_ok-push.ensures.items
