use Rattle.std.proofs.Common.{codes}
use Rattle.rs01_report.specs.Lines.{list_line, scanned_line}
use Rattle.rs01_report.specs.Texts.{known_fullness, scan_lines}
use Rattle.rs01_report.proofs.PushLemmas.{four_lines}
use Rattle.rs01_report.proofs.texts.scan_text.Goals as goal

pub returns : goal.returns
unfolding scan_lines
returns c =
    let report = c.args.report.now in
    four_lines _ _ _ _ _ (scanned_line report.sectors) (list_line (codes "unreadable ") report.unreadable)
    (list_line (codes "altered ") report.altered) (known_fullness report.fullest)
    c.new-text.ensures.bytes c.in_ok-push_scanned.ensures c.in_ok-push_sectors.ensures c.in_ok-push_sectors-2.ensures
    c.in_ok-push_known_fullness.ensures
