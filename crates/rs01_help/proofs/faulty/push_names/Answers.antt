use Rattle.std.proofs.Common.{◌++◌, ◌∙◌, ap, arith, string_bytes, take_all}
use Rattle.std.specs.List.{flat_map}
use Rattle.rs01_help.specs.Faulty.{name_part}
use Rattle.rs01_help.proofs.faulty.push_names.Goals as goal

pub returns : goal.returns
returns c =
    c.loop-verb.invariant
    ∙ ap (λ xs. string_bytes c.args.text.now ++ flat_map name_part xs) (take_all c.loop-verb.verb-index c.args.verbs.now (omega arith))
