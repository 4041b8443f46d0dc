use Rattle.std.proofs.Common.{◌++◌, ◌∙◌, ap, arith, string_bytes, take_all}
use Rattle.std.specs.List.{flat_map}
use Rattle.rs01_help.specs.Usage.{plain_part}
use Rattle.rs01_help.proofs.usage.push_plains.Goals as goal

pub returns : goal.returns
returns c =
    c.loop-word.invariant
    ∙ ap (λ xs. string_bytes c.args.text.now ++ flat_map plain_part xs) (take_all c.loop-word.word-index c.args.words.now (omega arith))
