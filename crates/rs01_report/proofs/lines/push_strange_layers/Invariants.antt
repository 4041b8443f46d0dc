use Rattle.std.proofs.Common.{◌≡◌, ◌++◌, take, string_bytes}
use Rattle.std.specs.List.{flat_map}
use Rattle.rs01_report.specs.Lines.{strange_line}
use Rattle.rs01_report.proofs.lines.push_strange_layers.Given as goal

abbrev pub invariant-loop-strange : goal.invariant-loop-strange
invariant-loop-strange l = string_bytes l.text ≡ string_bytes l.initial.text ++ flat_map strange_line (take l.strange-index l.layers)
