use Rattle.std.proofs.Common.{codes, string_bytes}
use Rattle.rs01_report.specs.Lines.{list_line}
use Rattle.rs01_report.specs.Texts.{unread_lines}
use Rattle.rs01_report.proofs.PushLemmas.{three_lines}
use Rattle.rs01_report.proofs.texts.push_unread.Goals as goal

pub returns : goal.returns
unfolding unread_lines
returns c =
    let report = c.args.report.now in
    three_lines (string_bytes c.args.text.now) _ _ _ (list_line (codes "unreadable ") report.unreadable)
    (list_line (codes "altered ") report.altered) (list_line (codes "not asked ") report.not_asked)
    c.in_ok-push_sectors.ensures c.in_ok-push_sectors-2.ensures c.in_ok-push_sectors-3.ensures
