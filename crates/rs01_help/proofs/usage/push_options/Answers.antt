use Rattle.std.proofs.Common.{◌++◌, ◌∙◌, ap, arith, string_bytes, take_all}
use Rattle.std.specs.List.{flat_map}
use Rattle.rs01_help.specs.Usage.{option_part}
use Rattle.rs01_help.proofs.usage.push_options.Goals as goal

pub returns : goal.returns
returns c =
    c.loop-option.invariant
    ∙ ap (λ xs. string_bytes c.args.text.now ++ flat_map option_part xs) (take_all c.loop-option.option-index c.args.options.now (omega arith))
