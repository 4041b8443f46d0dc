use Rattle.std.proofs.Common.{codes, string_bytes}
use Rattle.rs01_report.specs.Lines.{mark_line, surplus_line}
use Rattle.rs01_report.specs.Texts.{compared_lines}
use Rattle.rs01_report.proofs.PushLemmas.{three_lines}
use Rattle.rs01_report.proofs.texts.push_compared.Goals as goal

pub returns : goal.returns
unfolding compared_lines
returns c =
    let report = c.args.report.now in
    three_lines (string_bytes c.args.text.now) _ _ _ (surplus_line report.surplus)
    (mark_line (codes "fingerprint ") report.fingerprint (codes "absent")) (mark_line (codes "image md5 ") report.image (codes "short"))
    c.in_ok-push_surplus.ensures c.in_ok-push_mark.ensures c.in_ok-push_mark-2.ensures
