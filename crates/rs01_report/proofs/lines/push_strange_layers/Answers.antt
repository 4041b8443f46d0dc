use Rattle.std.proofs.Common.{◌++◌, ◌∙◌, ap, arith, codes, length, string_bytes, take_all}
use Rattle.std.specs.List.{flat_map}
use Rattle.rs01_report.specs.Lines.{count_line, strange_line, strange_lines}
use Rattle.rs01_report.proofs.PushLemmas.{two_lines}
use Rattle.rs01_report.proofs.lines.push_strange_layers.Goals as goal

pub returns : goal.returns
unfolding strange_lines
returns c =
    let layers = c.args.layers.now in
    let counted = string_bytes c.push_count.new.text in
    two_lines (string_bytes c.args.text.now) counted _ (count_line (codes "strange layers ") (length layers)) (flat_map strange_line layers)
    c.in_ok-push_count.ensures
    (c.loop-strange.invariant ∙ ap (λ xs. counted ++ flat_map strange_line xs) (take_all c.loop-strange.strange-index layers (omega arith)))
