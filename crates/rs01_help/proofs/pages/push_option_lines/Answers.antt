use Rattle.std.proofs.Common.{◌++◌, ◌∙◌, ap, arith, string_bytes, take_all}
use Rattle.std.specs.List.{flat_map}
use Rattle.rs01_help.specs.Pages.{option_line}
use Rattle.rs01_help.proofs.pages.push_option_lines.Goals as goal

pub returns : goal.returns
returns c =
    c.loop-option.invariant
    ∙ ap (λ xs. string_bytes c.args.text.now ++ flat_map option_line xs) (take_all c.loop-option.option-index c.args.options.now (omega arith))
