use Rattle.std.proofs.Common.{◌≡◌, ◌++◌, drop, string_bytes}
use Rattle.rs01_report.proofs.RunLemmas.{text_from}
use Rattle.rs01_report.proofs.lists.push_ranges.Given as goal

-- what stands there and the text of what is left make the whole text
abbrev pub invariant-loop-sector : goal.invariant-loop-sector
invariant-loop-sector l =
    string_bytes l.out ++ text_from l.first l.last (drop l.sector-index l.later) ≡ string_bytes l.initial.out ++ text_from l.initial.first l.initial.first l.later
